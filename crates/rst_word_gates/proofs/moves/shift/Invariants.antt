use Rattle.std.proofs.Common.{◌≡◌, ◌+◌, ◌*◌, ◌^◌, ◌≤◌, drop, length}
use Rattle.std.specs.List.{All}
use Rattle.rst_gate.specs.Circuits.{IsBelow}
use Rattle.rst_gate.specs.GateLists.{next_node}
use Rattle.rst_terms.specs.Recurrences.{shifted}
use Rattle.rst_word_gates.specs.GateAlgebra.{gates_so_far}
use Rattle.rst_word_gates.proofs.moves.shift.Given as goal

abbrev pub invariant-loop-j : goal.invariant-loop-j
invariant-loop-j l = record {
  run : shifted l.way gates_so_far l.fn.gates l.fill 1 l.amount l.word
      ≡ shifted l.way gates_so_far l.gates l.fill l.places (drop l.j l.amount) l.bits.items;
  stand : All (IsBelow (next_node l.gates)) l.bits.items;
  width : length l.bits.items ≡ length l.word;
  places : l.places ≡ 2 ^ l.j;
  stages : l.j ≤ 6;
  few : next_node l.gates ≤ next_node l.fn.gates + length l.word * l.j;
  grows : next_node l.fn.gates ≤ next_node l.gates;
}
