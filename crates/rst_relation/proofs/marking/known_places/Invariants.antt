use Rattle.std.proofs.Common.{◌≡◌, map, take}
use Rattle.rst_relation.specs.Decisions.{is_bit}
use Rattle.rst_relation.proofs.marking.known_places.Given as goal

abbrev pub invariant-loop-place : goal.invariant-loop-place
invariant-loop-place l = l.bits ≡ map is_bit (take l.place-index l.places)
