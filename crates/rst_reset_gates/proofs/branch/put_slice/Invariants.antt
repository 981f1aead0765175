use Rattle.std.proofs.Common.{◌-◌}
use Rattle.rst_cycle.specs.Drivers.{slice_has}
use Rattle.rst_reset_gates.specs.Tables.{value_at, Gives}
use Rattle.rst_reset_gates.proofs.TableLemmas.{part}
use Rattle.rst_reset_gates.proofs.branch.put_slice.Given as goal

abbrev pub invariant-loop-place : goal.invariant-loop-place
invariant-loop-place l = Gives l.reset (λ i place. slice_has i place (part l.slice (l.place - l.slice.low))) (value_at l.wires) l.fn.table l.table
