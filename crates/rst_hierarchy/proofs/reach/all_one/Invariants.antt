use Rattle.std.proofs.Common.{◌≡◌, ◌++◌, map, drop}
use Rattle.rst_hierarchy.proofs.reach.all_one.Given as goal

abbrev pub invariant-loop-places : goal.invariant-loop-places
invariant-loop-places l = l.counts.items ++ map (λ v. 1) (drop l._places-index l.below) ≡ map (λ v. 1) l.below
