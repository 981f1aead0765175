use Rattle.std.proofs.Common.{◌≡◌, ◌++◌, ◌<◌, List, Some, map, drop, length, slice_get}
use Rattle.std.specs.List.{All}
use Rattle.rst_tree.specs.Modules.{PlainModule, plain_instance, plain_copied}
use Rattle.rst_instances.specs.Places.{child}
use Rattle.rst_instances.specs.Tables.{plain_place, IsPlace, AreTables}
use Rattle.rst_instances.specs.Around.{AreAround}
use Rattle.rst_instances.proofs.places.push_children.Given as goal

abbrev pub invariant-loop-copy : goal.invariant-loop-copy
invariant-loop-copy l = record {
  placed : (modules : List PlainModule) (m : PlainModule) → AreAround modules l.around → slice_get modules l.of ≡ Some m → AreTables m l.tables
      → map (plain_place modules) l.made.items ++ map (child (plain_place modules l.around.place.now) (plain_instance l.instance) m) (map plain_copied (drop l.copy-index l.instance.copies.items))
      ≡ map (plain_place modules) l.fn.made.items ++ map (child (plain_place modules l.around.place.now) (plain_instance l.instance) m) (map plain_copied l.instance.copies.items);
  right : (modules : List PlainModule) → l.of < length modules → All (IsPlace modules) l.fn.made.items → All (IsPlace modules) l.made.items;
}
