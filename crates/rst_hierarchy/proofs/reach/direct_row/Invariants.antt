use Rattle.std.proofs.Common.{◌≡◌, ◌++◌, map, drop}
use Rattle.std.specs.List.{list_any}
use Rattle.rst_tree.specs.Modules.{PlainModule}
use Rattle.rst_hierarchy.specs.Tables.{plain_modules, place_named, is_place, direct_row}
use Rattle.rst_hierarchy.proofs.reach.direct_row.Given as goal

abbrev pub invariant-loop-module : goal.invariant-loop-module
invariant-loop-module l = l.row.items ++ map (λ (k : PlainModule). list_any (is_place (place_named (plain_modules l.modules) k.name)) l.places) (drop l.module-index (plain_modules l.modules)) ≡ direct_row (plain_modules l.modules) l.places
