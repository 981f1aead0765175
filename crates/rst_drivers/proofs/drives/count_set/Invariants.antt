use Rattle.std.proofs.Common.{◌≡◌, drop}
use Rattle.rst_drivers.specs.Counts.{with_block, counted}
use Rattle.rst_drivers.proofs.drives.count_set.Given as goal

-- what is left completes the count
abbrev pub invariant-loop-slice : goal.invariant-loop-slice
invariant-loop-slice l = counted (with_block l.number l.clocked) l.drives (drop l.slice-index l.target) ≡ counted (with_block l.number l.clocked) l.initial.drives l.target
