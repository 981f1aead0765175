use Rattle.rst_parse.proofs.Settled.{fault_place}
use Rattle.rst_parse.proofs.laws.fault_place.Goals as goal

pub returns : goal.returns
returns c = fault_place
