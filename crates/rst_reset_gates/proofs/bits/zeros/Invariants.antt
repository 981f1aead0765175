use Rattle.std.proofs.Common.{◌≡◌, false, replicate}
use Rattle.rst_gate.specs.SharedGates.{constant_edge}
use Rattle.rst_reset_gates.proofs.bits.zeros.Given as goal

abbrev pub invariant-loop : goal.invariant-loop
invariant-loop l = l.bits.items ≡ replicate l.counter (constant_edge false)
