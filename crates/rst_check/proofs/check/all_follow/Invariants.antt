use Rattle.std.proofs.Common.{◌≡◌, []}
use Rattle.rst_watch.specs.Propagators.{IsSettled}
use Rattle.rst_check.proofs.Replays.{Replayed}
use Rattle.rst_check.proofs.check.all_follow.Given as goal

abbrev pub invariant-loop-i : goal.invariant-loop-i
invariant-loop-i l = Replayed l.initial.p.clauses l.log l.initial.p.trail l.p.clauses l.p.trail l.i × (l.p.floors ≡ []) × IsSettled l.p
