use Rattle.rst_flat_laws.proofs.Limits.{few}
use Rattle.rst_flat_laws.proofs.laws.few_bits.Goals as goal

pub returns : goal.returns
returns c = λ flat none. few flat none
