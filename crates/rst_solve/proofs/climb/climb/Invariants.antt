use Rattle.std.proofs.Common.{◌≡◌, ◌+◌, length}
use Rattle.rst_solve.specs.Records.{IsClosedBelow}
use Rattle.rst_solve.proofs.climb.climb.Given as goal

abbrev pub invariant-loop : goal.invariant-loop
invariant-loop l = record {
  closed : IsClosedBelow l.q.free l.q.vars l.q.all l.t;
  paths : l.t.paths ≡ l.fn.t.paths;
  count : length l.t.levels + l.counter ≡ length l.fn.t.levels;
}
