use Rattle.std.proofs.Common.{◌≡◌, ◌++◌, map, drop}
use Rattle.std.specs.List.{flat_map}
use Rattle.rst_tree.specs.Modules.{plain_item}
use Rattle.rst_hierarchy.specs.Hierarchy.{placed_by}
use Rattle.rst_hierarchy.specs.Tables.{plain_modules, places_named}
use Rattle.rst_hierarchy.proofs.modules.placed.Given as goal

abbrev pub invariant-loop-item : goal.invariant-loop-item
invariant-loop-item l = l.made.items ++ places_named (plain_modules l.modules) (flat_map placed_by (map plain_item (drop l.item-index l.items))) ≡ places_named (plain_modules l.modules) (flat_map placed_by (map plain_item l.items))
