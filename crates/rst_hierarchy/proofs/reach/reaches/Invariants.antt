use Rattle.std.proofs.Common.{◌≡◌, map}
use Rattle.rst_hierarchy.specs.Hierarchy.{leads}
use Rattle.rst_hierarchy.specs.Tables.{plain_modules, rows_of}
use Rattle.rst_hierarchy.proofs.reach.reaches.Given as goal

abbrev pub invariant-loop-turn : goal.invariant-loop-turn
invariant-loop-turn l = map (λ r. r.items) l.rows.items ≡ rows_of (leads l._turn (plain_modules l.modules)) (plain_modules l.modules)
