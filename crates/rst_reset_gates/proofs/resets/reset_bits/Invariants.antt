use Rattle.std.proofs.Common.{drop}
use Rattle.rst_reset_gates.specs.Tables.{reset_at}
use Rattle.rst_reset_gates.proofs.Registers.{BitsLeft}
use Rattle.rst_reset_gates.proofs.resets.reset_bits.Given as goal

abbrev pub invariant-loop-k : goal.invariant-loop-k
invariant-loop-k l = BitsLeft l.start (reset_at l.table l.signal) l.fn.gates l.bits l.gates l.done.items (drop l.k l.bits)
