use Rattle.std.proofs.Common.{◌≡◌, List, map, drop}
use Rattle.std.specs.List.{flat_map, All}
use Rattle.rst_tree.specs.Modules.{PlainModule}
use Rattle.rst_names.specs.Faults.{first}
use Rattle.rst_instances.specs.Tables.{plain_place, IsPlace, IsDesign}
use Rattle.rst_instances.specs.Rows.{row_faults}
use Rattle.rst_instances.proofs.extents.row_passes.Given as goal

abbrev pub invariant-loop-place : goal.invariant-loop-place
invariant-loop-place l = (modules : List PlainModule) → IsDesign modules l.design → All (IsPlace modules) l.places → first (flat_map (row_faults l.row) (map (plain_place modules) (drop l.place-index l.places))) ≡ first (flat_map (row_faults l.row) (map (plain_place modules) l.places))
