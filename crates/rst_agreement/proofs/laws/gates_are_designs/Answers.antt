use Rattle.rst_agreement.proofs.Machines.{is_machine}
use Rattle.rst_agreement.proofs.laws.gates_are_designs.Goals as goal

pub returns : goal.returns
returns c = is_machine
