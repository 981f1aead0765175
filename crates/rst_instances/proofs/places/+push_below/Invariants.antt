use Rattle.std.proofs.Common.{◌≡◌, ◌++◌, ◌-◌, List, map}
use Rattle.std.specs.List.{flat_map, All}
use Rattle.std.specs.Vec.Iter.{into_iter_items}
use Rattle.rst_tree.specs.Modules.{PlainModule}
use Rattle.rst_instances.specs.Places.{below}
use Rattle.rst_instances.specs.Tables.{plain_place, IsPlace, IsDesign}
use Rattle.rst_instances.proofs.places.+push_below.Given as goal

abbrev pub invariant-loop-child : goal.invariant-loop-child
invariant-loop-child l = record {
  placed : (modules : List PlainModule) → IsDesign modules l.design → IsPlace modules l.fn.place
      → map (plain_place modules) l.made.items ++ flat_map (below (l.depth - 1) modules) (map (plain_place modules) (into_iter_items l.child-iterator)) ≡ map (plain_place modules) l.fn.made.items ++ below l.depth modules (plain_place modules l.fn.place);
  right : (modules : List PlainModule) → IsDesign modules l.design → IsPlace modules l.fn.place → All (IsPlace modules) l.fn.made.items → All (IsPlace modules) l.made.items;
  left : (modules : List PlainModule) → IsDesign modules l.design → All (IsPlace modules) (into_iter_items l.child-iterator);
}

abbrev pub decreases-push_below : goal.decreases-push_below
decreases-push_below l = l.depth
