use Rattle.std.proofs.Common.{◌≡◌, None, replicate}
use Rattle.rst_reset_gates.proofs.table.no_reset.Given as goal

abbrev pub invariant-loop : goal.invariant-loop
invariant-loop l = l.row.items ≡ replicate l.counter None
