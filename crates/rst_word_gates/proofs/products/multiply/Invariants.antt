use Rattle.std.proofs.Common.{◌≡◌, ◌+◌, ◌*◌, ◌≤◌, drop, length}
use Rattle.std.specs.List.{All}
use Rattle.rst_gate.specs.Circuits.{IsBelow}
use Rattle.rst_gate.specs.GateLists.{next_node}
use Rattle.rst_terms.specs.Recurrences.{product, added_up}
use Rattle.rst_word_gates.specs.GateAlgebra.{gates_so_far}
use Rattle.rst_word_gates.proofs.products.multiply.Given as goal

abbrev pub invariant-loop-i : goal.invariant-loop-i
invariant-loop-i l = record {
  run : product gates_so_far l.fn.gates l.a l.b ≡ added_up gates_so_far l.gates l.total.items l.a l.i (drop l.i l.b);
  stand : All (IsBelow (next_node l.gates)) l.total.items;
  width : length l.total.items ≡ length l.a;
  few : next_node l.gates ≤ next_node l.fn.gates + 7 * length l.a * l.i;
  grows : next_node l.fn.gates ≤ next_node l.gates;
}
