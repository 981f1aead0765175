use Rattle.rst_accepted_units.proofs.Designs.{no_wide}
use Rattle.rst_accepted_units.proofs.laws.widths_are_small.Goals as goal

pub returns : goal.returns
returns c = no_wide
