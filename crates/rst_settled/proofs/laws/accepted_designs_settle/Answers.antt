use Rattle.rst_settled.proofs.Settling.{accepted}
use Rattle.rst_settled.proofs.laws.accepted_designs_settle.Goals as goal

pub returns : goal.returns
returns c flat order state input design passes = accepted flat order state input design passes
