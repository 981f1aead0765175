use Rattle.std.proofs.Common.{◌-◌, length, get_or, []}
use Rattle.rst_watch.proofs.Visiting.{Visiting}
use Rattle.rst_watch.proofs.visit.visit.Given as goal

abbrev pub invariant-visiting : goal.invariant-visiting
invariant-visiting l = Visiting l.initial.s l.s l.lit l.j

abbrev pub decreases-visiting : goal.decreases-visiting
decreases-visiting l = length (get_or l.s.lists.items l.place []) - l.j
