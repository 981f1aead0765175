use Rattle.std.proofs.Common.{◌≡◌, ◌+◌, ◌^◌, ◌-◌, ◌≤◌, drop, length}
use Rattle.std.specs.List.{All}
use Rattle.rst_gate.specs.Circuits.{IsBelow}
use Rattle.rst_gate.specs.GateLists.{next_node}
use Rattle.rst_terms.specs.Recurrences.{selected}
use Rattle.rst_word_gates.specs.GateAlgebra.{gates_so_far}
use Rattle.rst_word_gates.proofs.moves.select.Given as goal

abbrev pub invariant-loop-j : goal.invariant-loop-j
invariant-loop-j l = record {
  run : selected gates_so_far l.fn.gates l.index l.word ≡ selected gates_so_far l.gates (drop l.j l.index) l.bits.items;
  stand : All (IsBelow (next_node l.gates)) l.bits.items;
  width : length l.bits.items ≡ 2 ^ (length l.index - l.j);
  few : next_node l.gates + length l.bits.items ≤ next_node l.fn.gates + length l.word;
  grows : next_node l.fn.gates ≤ next_node l.gates;
}
