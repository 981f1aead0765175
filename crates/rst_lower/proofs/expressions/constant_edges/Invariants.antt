use Rattle.std.proofs.Common.{◌≡◌, ◌-◌, ◌++◌, map}
use Rattle.rst_gate.specs.SharedGates.{constant_edge}
use Rattle.rst_terms.specs.Numbers.{bits_of}
use Rattle.rst_typed_terms.specs.Expressions.{constants}
use Rattle.rst_word_gates.specs.GateAlgebra.{gates_so_far}
use Rattle.rst_lower.proofs.expressions.constant_edges.Given as goal

abbrev pub invariant-loop : goal.invariant-loop
invariant-loop l = constants gates_so_far l.width l.value ≡ l.bits.items ++ map constant_edge (bits_of (l.width - l.counter) l.left)
