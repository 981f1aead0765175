use Rattle.std.proofs.Common.{◌+◌, ◌*◌, ◌-◌}
use Rattle.rst_clause.proofs.Queueing.{Waiting}
use Rattle.rst_clause.proofs.propagation.look_along.Given as goal

abbrev pub invariant-waiting : goal.invariant-waiting
invariant-waiting l = Waiting l.clauses l.initial.trail l.trail l.next

abbrev pub decreases-waiting : goal.decreases-waiting
decreases-waiting l = 2 * l.trail.vars + 2 - l.next
