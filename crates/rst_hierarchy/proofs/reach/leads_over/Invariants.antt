use Rattle.std.proofs.Common.{◌≡◌, map, drop}
use Rattle.std.specs.List.{list_any, enumerate_from}
use Rattle.rst_hierarchy.specs.Tables.{is_over, leads_over}
use Rattle.rst_hierarchy.proofs.reach.leads_over.Given as goal

abbrev pub invariant-loop-over : goal.invariant-loop-over
invariant-loop-over l = list_any (is_over (map (λ r. r.items) l.rows) l.to) (enumerate_from l.over (drop l.over l.row)) ≡ leads_over (map (λ r. r.items) l.rows) l.row l.to
