use Rattle.std.proofs.Common.{◌<◌, ◌≤◌, None}
use Rattle.rst_clause.specs.Queue.{LooksAtAll}
use Rattle.rst_clause.proofs.propagation.look_from.Given as goal

abbrev pub invariant-loop-i : goal.invariant-loop-i
invariant-loop-i l = LooksAtAll l.clauses (λ j. (l.since ≤ j) × (j < l.i)) l.initial.trail l.trail None
