use Rattle.std.proofs.Common.{◌≡◌, ◌++◌, map, drop}
use Rattle.rst_hierarchy.specs.Tables.{one_marked}
use Rattle.rst_hierarchy.proofs.reach.deeper.Given as goal

abbrev pub invariant-loop-places : goal.invariant-loop-places
invariant-loop-places l = l.made.items ++ map (one_marked l.marks) (map (λ v. v.items) (drop l.places-index l.below)) ≡ map (one_marked l.marks) (map (λ v. v.items) l.below)
