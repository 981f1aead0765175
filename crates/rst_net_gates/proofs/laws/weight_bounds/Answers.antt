use Rattle.rst_net_gates.proofs.Weighing.{weighed}
use Rattle.rst_net_gates.proofs.laws.weight_bounds.Goals as goal

pub returns : goal.returns
returns c = λ flat lowerable. weighed flat lowerable.fits.units lowerable.fits.clocked
