use Rattle.rst_gate.specs.GateLists.{next_node}
use Rattle.rst_word_gates.proofs.Turns.{inverted_stand}
use Rattle.rst_word_gates.proofs.operators.subtract.Goals as goal

pub add-requires-clause-b_stands : goal.add-requires-clause-b_stands
add-requires-clause-b_stands c =
    rw (c.as_slice.ensures.value, c.in_ok-inverted.ensures)
    (inverted_stand (next_node c.args.gates.now) c.args.b.now c.requires.b_stands)
