use Rattle.std.proofs.Common.{◌≡◌, ◌++◌, map, drop}
use Rattle.std.specs.List.{enumerate_from}
use Rattle.rst_hierarchy.specs.Tables.{next_mark, doubled_row}
use Rattle.rst_hierarchy.proofs.reach.doubled_row.Given as goal

abbrev pub invariant-loop-to : goal.invariant-loop-to
invariant-loop-to l = l.made.items ++ map (next_mark (map (λ r. r.items) l.rows) l.row) (enumerate_from l.to (drop l.to l.row)) ≡ doubled_row (map (λ r. r.items) l.rows) l.row
