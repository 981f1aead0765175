use Rattle.std.proofs.Common.{◌+◌, ◌*◌, ◌-◌}
use Rattle.rst_watch.proofs.Visiting.{Propagating}
use Rattle.rst_watch.proofs.propagator.propagate_all.Given as goal

abbrev pub invariant-propagating : goal.invariant-propagating
invariant-propagating l = Propagating l.initial.s l.s

abbrev pub decreases-propagating : goal.decreases-propagating
decreases-propagating l = 2 * l.s.trail.vars + 2 - l.s.done
