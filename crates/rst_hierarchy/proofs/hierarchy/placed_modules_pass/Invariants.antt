use Rattle.std.proofs.Common.{◌≡◌, map, drop}
use Rattle.std.specs.List.{flat_map}
use Rattle.rst_tree.specs.Modules.{plain_item}
use Rattle.rst_names.specs.Faults.{first}
use Rattle.rst_hierarchy.specs.Hierarchy.{unknown_in}
use Rattle.rst_hierarchy.specs.Tables.{plain_modules}
use Rattle.rst_hierarchy.proofs.hierarchy.placed_modules_pass.Given as goal

abbrev pub invariant-loop-item : goal.invariant-loop-item
invariant-loop-item l = first (flat_map (unknown_in (plain_modules l.modules)) (map plain_item (drop l.item-index l.items))) ≡ first (flat_map (unknown_in (plain_modules l.modules)) (map plain_item l.items))
