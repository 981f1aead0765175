use Rattle.std.proofs.Common.{◌≡◌, ◌≤◌, true, false, length}
use Rattle.rst_clause.specs.Trails.{IsComplete}
use Rattle.rst_solve.specs.Choices.{AllKnownTo}
use Rattle.rst_solve.specs.Tree.{HasFalse}
use Rattle.rst_solve.specs.Records.{IsOpenBelow}
use Rattle.rst_solve.proofs.search.search.Given as goal

abbrev pub invariant-loop : goal.invariant-loop
invariant-loop l = record {
  below : IsOpenBelow l.q.free l.q.vars l.q.all l.t;
  complete : l.complete ≡ true → IsComplete l.t.trail.lits l.q.all;
  conflict : l.complete ≡ false → HasFalse l.q.all l.t.trail.lits;
  next : l.next ≤ l.q.free;
  known : AllKnownTo l.t.trail.lits l.next;
  count : length l.t.paths.items ≡ l.counter;
}
