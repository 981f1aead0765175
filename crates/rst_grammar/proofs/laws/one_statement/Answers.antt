use Rattle.rst_grammar.proofs.TakesStatements.{one_statement}
use Rattle.rst_grammar.proofs.laws.one_statement.Goals as goal

pub returns : goal.returns
returns c = one_statement
