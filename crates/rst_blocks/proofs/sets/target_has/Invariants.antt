use Rattle.std.proofs.Common.{◌≡◌, drop}
use Rattle.rst_cycle.specs.Drivers.{target_has}
use Rattle.rst_blocks.proofs.sets.target_has.Given as goal

abbrev pub invariant-loop-slice : goal.invariant-loop-slice
invariant-loop-slice l = target_has (drop l.slice-index l.target) l.signal l.place ≡ target_has l.target l.signal l.place
