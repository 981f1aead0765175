use Rattle.std.proofs.Common.{◌≡◌, ◌++◌, List, map, drop}
use Rattle.rst_tree.specs.Modules.{PlainModule}
use Rattle.rst_width.specs.Scopes.{extent_of}
use Rattle.rst_names.specs.Declarations.{signals}
use Rattle.rst_names.specs.Tables.{plain_declared}
use Rattle.rst_instances.specs.Places.{extent_in}
use Rattle.rst_instances.specs.Tables.{module_at, plain_place, IsPlace, IsDesign}
use Rattle.rst_instances.proofs.extents.shapes_in.Given as goal

abbrev pub invariant-loop-d : goal.invariant-loop-d
invariant-loop-d l = (modules : List PlainModule) → IsDesign modules l.design → IsPlace modules l.place
    → map extent_of l.shapes.items ++ map (extent_in (plain_place modules l.place)) (map plain_declared (drop l.d-index l.tables.facts.now.signals.items))
    ≡ map (extent_in (plain_place modules l.place)) (signals (module_at modules l.place.of))
