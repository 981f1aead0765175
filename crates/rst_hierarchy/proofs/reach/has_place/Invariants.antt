use Rattle.std.proofs.Common.{◌≡◌, drop}
use Rattle.std.specs.List.{list_any}
use Rattle.rst_hierarchy.specs.Tables.{is_place}
use Rattle.rst_hierarchy.proofs.reach.has_place.Given as goal

abbrev pub invariant-loop-place : goal.invariant-loop-place
invariant-loop-place l = list_any (is_place l.wanted) (drop l.place-index l.places) ≡ list_any (is_place l.wanted) l.places
