use Rattle.rst_gate.specs.Operations.{on_bits, on_terns}
use Rattle.rst_gate.proofs.LaterGates.{values_kept}
use Rattle.rst_gate.proofs.laws.later_gates_keep_values.Goals as goal

pub returns-clause-two : goal.returns-clause-two
returns-clause-two c = values_kept on_bits

pub returns-clause-three : goal.returns-clause-three
returns-clause-three c = values_kept on_terns
