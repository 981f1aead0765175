use Rattle.rst_gate.specs.GateLists.{next_node}
use Rattle.rst_word_gates.proofs.Turns.{inverted_stand}
use Rattle.rst_word_gates.proofs.order.equal.Goals as goal

pub all_bits-requires-clause-stand : goal.all_bits-requires-clause-stand
all_bits-requires-clause-stand c =
    rw (c.as_slice-2.ensures.value, c.in_ok-same.ensures, c.as_slice.ensures.value)
    (inverted_stand (next_node c.connect_each.new.gates) c.in_ok-differ.differ.items c.in_ok-differ.ensures.stand)
