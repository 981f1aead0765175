use Rattle.std.proofs.Common.{ap, ◌∙◌}
use Rattle.rst_tree.specs.Statements.{plain_stmt}
use Rattle.rst_names.specs.Names.{names_in_stmt}
use Rattle.rst_names.specs.Faults.{first}
use Rattle.rst_name_faults.proofs.UseLemmas.{undeclared_names}
use Rattle.rst_name_faults.proofs.uses.no_name_in_stmt.Goals as goal

pub returns : goal.returns
returns c = c.first_in_stmt.ensures ∙ ap first (undeclared_names c.args.facts.now c.requires (names_in_stmt (plain_stmt c.args.stmt.now)))
