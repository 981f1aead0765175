use Rattle.std.proofs.Common.{◌≡◌, ◌+◌, ◌≤◌, drop, length}
use Rattle.std.specs.List.{All}
use Rattle.rst_gate.specs.Circuits.{IsBelow}
use Rattle.rst_gate.specs.GateLists.{next_node}
use Rattle.rst_terms.specs.Recurrences.{chosen}
use Rattle.rst_word_gates.specs.GateAlgebra.{gates_so_far}
use Rattle.rst_word_gates.proofs.Turns.{bits_behind}
use Rattle.rst_word_gates.proofs.bits.choose.Given as goal

abbrev pub invariant-loop-i : goal.invariant-loop-i
invariant-loop-i l = record {
  run : chosen gates_so_far l.fn.gates l.select l.one l.zero
      ≡ bits_behind l.bits.items (chosen gates_so_far l.gates l.select (drop l.i l.one) (drop l.i l.zero));
  stand : All (IsBelow (next_node l.gates)) l.bits.items;
  width : length l.bits.items ≡ l.i;
  few : next_node l.gates ≤ next_node l.fn.gates + l.i;
  grows : next_node l.fn.gates ≤ next_node l.gates;
}
