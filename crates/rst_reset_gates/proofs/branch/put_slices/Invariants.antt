use Rattle.std.proofs.Common.{take}
use Rattle.rst_cycle.specs.Drivers.{target_has}
use Rattle.rst_reset_gates.specs.Tables.{value_at, Gives}
use Rattle.rst_reset_gates.proofs.branch.put_slices.Given as goal

abbrev pub invariant-loop-slice : goal.invariant-loop-slice
invariant-loop-slice l = Gives l.reset (target_has (take l.slice-index l.slices)) (value_at l.wires) l.fn.table l.table
