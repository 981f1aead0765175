use Rattle.std.proofs.Common.{length}
use Rattle.rst_clause.proofs.Marks.{Truncating}
use Rattle.rst_clause.proofs.trail.Trail.truncate.Given as goal

abbrev pub invariant-loop-self : goal.invariant-loop-self
invariant-loop-self l = Truncating l.initial.self-inside.vars l.initial.self-inside.lits.items l.initial.self-inside.reasons.items l.self-inside.vars l.self-inside.lits.items l.self-inside.reasons.items l.self-inside.marks.items l.n

abbrev pub decreases-loop-self : goal.decreases-loop-self
decreases-loop-self l = length l.self-inside.lits.items
