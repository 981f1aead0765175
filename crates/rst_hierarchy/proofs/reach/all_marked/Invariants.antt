use Rattle.std.proofs.Common.{◌≡◌, ◌++◌, map, drop, true}
use Rattle.rst_hierarchy.proofs.reach.all_marked.Given as goal

abbrev pub invariant-loop-places : goal.invariant-loop-places
invariant-loop-places l = l.marks.items ++ map (λ v. true) (drop l._places-index l.below) ≡ map (λ v. true) l.below
