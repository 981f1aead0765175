use Rattle.std.proofs.Common.{◌≡◌}
use Rattle.rst_landing.specs.Work.{land_conflicts}
use Rattle.rst_landing.proofs.paths.conflicts.Given as goal

abbrev pub invariant-loop-path : goal.invariant-loop-path
invariant-loop-path l = l.journal ≡ land_conflicts l.yielded
