-- Gate by gate: the next variable's value is the gate's, and one of the gate's clauses gives it.
use Rattle.rst_clause.proofs.Extending.{defined_extends}
use Rattle.rst_clause.proofs.laws.one_extension.Goals as goal

pub returns : goal.returns
returns c = defined_extends
