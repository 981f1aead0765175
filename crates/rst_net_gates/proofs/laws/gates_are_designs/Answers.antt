use Rattle.rst_agreement.proofs.Machines.{is_machine}
use Rattle.rst_net_gates.proofs.laws.gates_are_designs.Goals as goal

pub returns : goal.returns
returns c = λ flat orderly lowerable circuit. is_machine flat orderly lowerable.fits circuit.in_order
