use Rattle.std.proofs.Common.{◌≡◌, ◌++◌, List, map, drop}
use Rattle.std.specs.List.{flat_map, All}
use Rattle.rst_tree.specs.Modules.{PlainModule, plain_item}
use Rattle.rst_hierarchy.specs.Hierarchy.{module_named, instances_in}
use Rattle.rst_instances.specs.Places.{copies, children}
use Rattle.rst_instances.specs.Tables.{plain_place, IsPlace, IsDesign}
use Rattle.rst_instances.proofs.places.children.Given as goal

abbrev pub invariant-loop-item : goal.invariant-loop-item
invariant-loop-item l = record {
  placed : (modules : List PlainModule) → IsDesign modules l.design → IsPlace modules l.place
      → map (plain_place modules) l.made.items ++ flat_map (λ i. copies (plain_place modules l.place) i (module_named modules i.of_module)) (flat_map instances_in (map plain_item (drop l.item-index l.around.tables.facts.now.«module».now.items.items)))
      ≡ children modules (plain_place modules l.place);
  right : (modules : List PlainModule) → IsDesign modules l.design → All (IsPlace modules) l.made.items;
}
