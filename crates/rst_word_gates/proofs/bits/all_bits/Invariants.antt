use Rattle.std.proofs.Common.{◌≡◌, ◌+◌, ◌≤◌, drop}
use Rattle.rst_gate.specs.Circuits.{IsBelow}
use Rattle.rst_gate.specs.GateLists.{next_node}
use Rattle.rst_terms.specs.Recurrences.{reduced, joined}
use Rattle.rst_word_gates.specs.GateAlgebra.{gates_so_far}
use Rattle.rst_word_gates.proofs.bits.all_bits.Given as goal

abbrev pub invariant-loop-i : goal.invariant-loop-i
invariant-loop-i l = record {
  run : reduced gates_so_far l.op l.fn.gates l.bits ≡ joined gates_so_far l.op l.gates l.all (drop l.i l.bits);
  stands : IsBelow (next_node l.gates) l.all;
  few : next_node l.gates ≤ next_node l.fn.gates + l.i;
  grows : next_node l.fn.gates ≤ next_node l.gates;
}
