use Rattle.std.proofs.Common.{◌≡◌, ◌++◌, map, drop}
use Rattle.rst_hierarchy.specs.Tables.{plain_modules, direct_row}
use Rattle.rst_hierarchy.proofs.reach.direct_rows.Given as goal

abbrev pub invariant-loop-places : goal.invariant-loop-places
invariant-loop-places l = map (λ r. r.items) l.rows.items ++ map (direct_row (plain_modules l.modules)) (map (λ v. v.items) (drop l.places-index l.below)) ≡ map (direct_row (plain_modules l.modules)) (map (λ v. v.items) l.below)
