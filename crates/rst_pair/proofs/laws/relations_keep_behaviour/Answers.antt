use Rattle.rst_gate.proofs.Relations.{inductive-same}
use Rattle.rst_gate.proofs.Readings.{gates_keep_states}
use Rattle.rst_pair.specs.Sides.{left_machine, right_machine}
use Rattle.rst_pair.specs.Fronts.{relation}
use Rattle.rst_pair.proofs.laws.relations_keep_behaviour.Goals as goal

pub returns : goal.returns
returns c = λ p f sides inductive s t pair related.
    inductive-same (left_machine p) (right_machine p) sides.ports (gates_keep_states p.left sides.left) (gates_keep_states p.right sides.right)
    (relation f) inductive s t pair.0 pair.1 related
