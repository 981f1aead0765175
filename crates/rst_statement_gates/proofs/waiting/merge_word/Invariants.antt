use Rattle.std.proofs.Common.{◌≡◌, ◌+◌, ◌≤◌, drop, length}
use Rattle.std.specs.List.{All}
use Rattle.rst_gate.specs.Circuits.{IsBelow}
use Rattle.rst_gate.specs.GateLists.{next_node}
use Rattle.rst_cycle.specs.Bits.{has_bit}
use Rattle.rst_word_gates.specs.GateAlgebra.{gates_so_far}
use Rattle.rst_statement_terms.specs.Targets.{merged_word}
use Rattle.rst_statement_terms.specs.Weights.{places_below}
use Rattle.rst_statement_gates.proofs.Merging.{bits_behind}
use Rattle.rst_statement_gates.proofs.waiting.merge_word.Given as goal

abbrev pub invariant-loop-place : goal.invariant-loop-place
invariant-loop-place l = record {
  run : merged_word gates_so_far l.fn.gates l.select (has_bit l.mask) 0 l.one l.zero
      ≡ bits_behind l.bits.items (merged_word gates_so_far l.gates l.select (has_bit l.mask) l.place (drop l.place l.one) (drop l.place l.zero));
  stand : All (IsBelow (next_node l.gates)) l.bits.items;
  width : length l.bits.items ≡ l.place;
  few : next_node l.gates ≤ next_node l.fn.gates + places_below (has_bit l.mask) l.place;
  grows : next_node l.fn.gates ≤ next_node l.gates;
}
