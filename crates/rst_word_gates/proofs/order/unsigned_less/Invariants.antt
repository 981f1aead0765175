use Rattle.std.proofs.Common.{◌≡◌, ◌+◌, ◌*◌, ◌≤◌, drop}
use Rattle.rst_gate.specs.Circuits.{IsBelow}
use Rattle.rst_gate.specs.GateLists.{next_node}
use Rattle.rst_terms.specs.Recurrences.{below}
use Rattle.rst_word_gates.specs.GateAlgebra.{gates_so_far}
use Rattle.rst_word_gates.proofs.order.unsigned_less.Given as goal

abbrev pub invariant-loop-i : goal.invariant-loop-i
invariant-loop-i l = record {
  run : below gates_so_far l.fn.gates l.fn.low l.a l.b ≡ below gates_so_far l.gates l.low (drop l.i l.a) (drop l.i l.b);
  low_stands : IsBelow (next_node l.gates) l.low;
  few : next_node l.gates ≤ next_node l.fn.gates + 2 * l.i;
  grows : next_node l.fn.gates ≤ next_node l.gates;
}
