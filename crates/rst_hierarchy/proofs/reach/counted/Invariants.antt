use Rattle.std.proofs.Common.{◌≡◌, take, get_or, suc, min}
use Rattle.std.specs.List.{sum_by}
use Rattle.rst_hierarchy.proofs.reach.counted.Given as goal

abbrev pub invariant-loop-place : goal.invariant-loop-place
invariant-loop-place l = l.sum ≡ min (suc (sum_by (λ p. get_or l.counts p 0) (take l.place-index l.places))) 1025
