use Rattle.std.proofs.Common.{◌≡◌, ◌++◌, map, drop}
use Rattle.std.specs.List.{flat_map}
use Rattle.rst_tree.specs.Modules.{plain_item, plain_module}
use Rattle.rst_instances.specs.RangeRows.{ranged, ranged_item}
use Rattle.rst_instances.specs.Rows.{plain_ranged}
use Rattle.rst_instances.proofs.extents.ranged_declarations.Given as goal

abbrev pub invariant-loop-item : goal.invariant-loop-item
invariant-loop-item l = map plain_ranged l.made.items ++ flat_map ranged_item (map plain_item (drop l.item-index l.facts.«module».now.items.items)) ≡ ranged (plain_module l.facts.«module».now)
