use Rattle.rst_gate.specs.GateLists.{next_node}
use Rattle.rst_word_gates.proofs.Turns.{inverted_result}
use Rattle.rst_word_gates.proofs.operators.inverted_xor.Goals as goal

pub returns-clause-stand : goal.returns-clause-stand
returns-clause-stand c =
    inverted_result (next_node c.connect_each.new.gates) c.as_slice.result.now c.invert.result c.invert.ensures
    (rw c.as_slice.ensures.value c.in_ok-differ.ensures.stand)
