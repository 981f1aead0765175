use Rattle.std.proofs.Common.{◌≡◌}
use Rattle.rst_clause.specs.Trails.{IsComplete}
use Rattle.rst_solve.specs.Choices.{AllKnownTo}
use Rattle.rst_solve.specs.Records.{IsOpenBelow}
use Rattle.rst_solve.proofs.tree.descend.Given as goal

abbrev pub invariant-loop-bit : goal.invariant-loop-bit
invariant-loop-bit l = record {
  below : IsOpenBelow l.q.free l.q.vars l.q.all l.t;
  complete : IsComplete l.t.trail.lits l.q.all;
  known : AllKnownTo l.t.trail.lits l.bit;
  paths : l.t.paths ≡ l.fn.t.paths;
}
