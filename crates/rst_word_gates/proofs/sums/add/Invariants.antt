use Rattle.std.proofs.Common.{◌≡◌, ◌+◌, ◌*◌, ◌≤◌, drop, length}
use Rattle.std.specs.List.{All}
use Rattle.rst_gate.specs.Circuits.{IsBelow}
use Rattle.rst_gate.specs.GateLists.{next_node}
use Rattle.rst_terms.specs.Recurrences.{summed}
use Rattle.rst_word_gates.specs.GateAlgebra.{gates_so_far}
use Rattle.rst_word_gates.proofs.Turns.{sum_behind}
use Rattle.rst_word_gates.proofs.sums.add.Given as goal

abbrev pub invariant-loop-i : goal.invariant-loop-i
invariant-loop-i l = record {
  run : summed gates_so_far l.fn.gates l.fn.carry l.a l.b
      ≡ sum_behind l.bits.items (summed gates_so_far l.gates l.carry (drop l.i l.a) (drop l.i l.b));
  bits_stand : All (IsBelow (next_node l.gates)) l.bits.items;
  width : length l.bits.items ≡ l.i;
  carry_stands : IsBelow (next_node l.gates) l.carry;
  grows : next_node l.fn.gates ≤ next_node l.gates;
  few : next_node l.gates ≤ next_node l.fn.gates + 6 * l.i;
}
