use Rattle.std.proofs.Common.{◌≡◌, drop}
use Rattle.rst_drivers.specs.Counts.{with_assign, counted}
use Rattle.rst_drivers.proofs.drives.count_assign.Given as goal

-- what is left completes the count
abbrev pub invariant-loop-slice : goal.invariant-loop-slice
invariant-loop-slice l = counted with_assign l.drives (drop l.slice-index l.target) ≡ counted with_assign l.initial.drives l.target
