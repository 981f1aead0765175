use Rattle.std.proofs.Common.{◌≡◌, drop}
use Rattle.std.specs.List.{list_any}
use Rattle.rst_hierarchy.specs.Tables.{mark_at, one_marked}
use Rattle.rst_hierarchy.proofs.reach.one_marked.Given as goal

abbrev pub invariant-loop-place : goal.invariant-loop-place
invariant-loop-place l = list_any (mark_at l.marks) (drop l.place-index l.places) ≡ one_marked l.marks l.places
