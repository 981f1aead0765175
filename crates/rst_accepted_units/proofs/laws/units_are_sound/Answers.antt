use Rattle.rst_accepted_units.proofs.Designs.{all_sound}
use Rattle.rst_accepted_units.proofs.laws.units_are_sound.Goals as goal

pub returns : goal.returns
returns c = all_sound
