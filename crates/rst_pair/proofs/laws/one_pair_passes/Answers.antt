use Rattle.rst_pair.proofs.Passing.{one-pair}
use Rattle.rst_pair.proofs.laws.one_pair_passes.Goals as goal

pub returns : goal.returns
returns c = one-pair
