use Rattle.rst_parse.proofs.Settled.{well_formed}
use Rattle.rst_parse.proofs.laws.well_formed.Goals as goal

pub returns : goal.returns
returns c = well_formed
