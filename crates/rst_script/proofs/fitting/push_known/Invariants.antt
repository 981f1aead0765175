use Rattle.std.proofs.Common.{◌≡◌, ◌++◌}
use Rattle.rst_script.specs.Fitting.{known_places}
use Rattle.rst_script.proofs.fitting.push_known.Given as goal

abbrev pub invariant-loop-left : goal.invariant-loop-left
invariant-loop-left l = l.cube ++ known_places l.left l.value ≡ l.initial.cube ++ known_places l.width l.value

abbrev pub decreases-loop-left : goal.decreases-loop-left
decreases-loop-left l = l.left
