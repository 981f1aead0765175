use Rattle.std.proofs.Common.{None, take}
use Rattle.std.specs.List.{Contains}
use Rattle.rst_clause.specs.Queue.{LooksAtAll}
use Rattle.rst_clause.proofs.propagation.look_at_occurrences.Given as goal

abbrev pub invariant-loop-k : goal.invariant-loop-k
invariant-loop-k l = LooksAtAll l.clauses (λ j. Contains (take l.k l.numbers) j) l.initial.trail l.trail None
