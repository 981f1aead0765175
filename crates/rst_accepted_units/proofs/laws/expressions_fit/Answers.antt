use Rattle.rst_accepted_units.proofs.Designs.{all_fit}
use Rattle.rst_accepted_units.proofs.laws.expressions_fit.Goals as goal

pub returns : goal.returns
returns c = all_fit
