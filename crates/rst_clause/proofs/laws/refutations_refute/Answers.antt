-- By induction over the lines, each solution of the clauses makes each line true, and the last has no literal.
use Rattle.rst_clause.proofs.Sound.{refutation_refutes}
use Rattle.rst_clause.proofs.laws.refutations_refute.Goals as goal

pub returns : goal.returns
returns c = refutation_refutes
