use Rattle.rst_pair.proofs.Passing.{passing-right}
use Rattle.rst_pair.proofs.laws.passing_hops_are_right.Goals as goal

pub returns : goal.returns
returns c = passing-right
