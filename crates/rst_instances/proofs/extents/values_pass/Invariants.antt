use Rattle.std.proofs.Common.{◌≡◌, map, drop}
use Rattle.std.specs.List.{flat_map}
use Rattle.rst_names.specs.Faults.{first}
use Rattle.rst_instances.specs.Tables.{plain_valued}
use Rattle.rst_instances.specs.Rows.{value_fault}
use Rattle.rst_instances.proofs.extents.values_pass.Given as goal

abbrev pub invariant-loop-valued : goal.invariant-loop-valued
invariant-loop-valued l = first (flat_map (value_fault l.place.prefix) (map plain_valued (drop l.valued-index l.place.values.items))) ≡ first (flat_map (value_fault l.place.prefix) (map plain_valued l.place.values.items))
