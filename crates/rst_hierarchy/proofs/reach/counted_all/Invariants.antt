use Rattle.std.proofs.Common.{◌≡◌, ◌++◌, map, drop}
use Rattle.rst_hierarchy.specs.Tables.{counted}
use Rattle.rst_hierarchy.proofs.reach.counted_all.Given as goal

abbrev pub invariant-loop-places : goal.invariant-loop-places
invariant-loop-places l = l.made.items ++ map (counted l.counts) (map (λ v. v.items) (drop l.places-index l.below)) ≡ map (counted l.counts) (map (λ v. v.items) l.below)
