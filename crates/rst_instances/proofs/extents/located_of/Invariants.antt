use Rattle.std.proofs.Common.{◌≡◌, ◌++◌, ◌+◌, ◌<◌, ◌^◌, List, map, length}
use Rattle.std.specs.List.{All, sum_by}
use Rattle.std.specs.Vec.Iter.{into_iter_items}
use Rattle.rst_tree.specs.Modules.{PlainModule}
use Rattle.rst_names.specs.Declarations.{signals}
use Rattle.rst_instances.specs.Places.{located, located_from}
use Rattle.rst_instances.specs.Tables.{plain_place, IsPlace, IsDesign}
use Rattle.rst_instances.specs.Locations.{plain_located, IsLocated}
use Rattle.rst_instances.proofs.extents.located_of.Given as goal

abbrev pub invariant-loop-place : goal.invariant-loop-place
invariant-loop-place l = record {
  located : (modules : List PlainModule) → IsDesign modules l.design → All (IsPlace modules) l.fn.places.items → sum_by (λ p. length (signals p.of)) (map (plain_place modules) l.fn.places.items) < 2 ^ 32 →
      map (plain_located modules) l.made.items ++ located_from l.next (map (plain_place modules) (into_iter_items l.place-iterator)) ≡ located (map (plain_place modules) l.fn.places.items);
  few : (modules : List PlainModule) → IsDesign modules l.design → All (IsPlace modules) l.fn.places.items → sum_by (λ p. length (signals p.of)) (map (plain_place modules) l.fn.places.items) < 2 ^ 32 →
      l.next + sum_by (λ p. length (signals p.of)) (map (plain_place modules) (into_iter_items l.place-iterator)) < 2 ^ 32;
  left : (modules : List PlainModule) → IsDesign modules l.design → All (IsPlace modules) l.fn.places.items → All (IsPlace modules) (into_iter_items l.place-iterator);
  right : (modules : List PlainModule) → IsDesign modules l.design → All (IsPlace modules) l.fn.places.items → sum_by (λ p. length (signals p.of)) (map (plain_place modules) l.fn.places.items) < 2 ^ 32 → All (IsLocated modules) l.made.items;
}
