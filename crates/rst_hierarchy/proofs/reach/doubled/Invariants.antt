use Rattle.std.proofs.Common.{◌≡◌, ◌++◌, map, drop}
use Rattle.rst_hierarchy.specs.Tables.{doubled_row, doubled}
use Rattle.rst_hierarchy.proofs.reach.doubled.Given as goal

abbrev pub invariant-loop-row : goal.invariant-loop-row
invariant-loop-row l = map (λ r. r.items) l.made.items ++ map (doubled_row (map (λ r. r.items) l.rows)) (map (λ r. r.items) (drop l.row-index l.rows)) ≡ doubled (map (λ r. r.items) l.rows)
