use Rattle.rst_settled.proofs.Settling.{accepted, one_machine}
use Rattle.rst_settled.proofs.laws.accepted_designs_are_machines.Goals as goal

pub returns : goal.returns
returns c flat order design passes = one_machine flat (λ state input. accepted flat order state input design passes)
