use Rattle.rst_width.proofs.NameTables.{names_of-meant, names_with-meant}
use Rattle.rst_width.proofs.laws.tables_are_right.Goals as goal

pub returns : goal.returns
returns c = record { scope = names_of-meant; unshaped = names_with-meant }
