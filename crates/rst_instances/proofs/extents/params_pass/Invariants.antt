use Rattle.std.proofs.Common.{◌≡◌, [], map, drop}
use Rattle.std.specs.List.{flat_map}
use Rattle.rst_names.specs.Faults.{first}
use Rattle.rst_instances.specs.RangeRows.{param_faults}
use Rattle.rst_instances.specs.Tables.{plain_place}
use Rattle.rst_instances.proofs.extents.params_pass.Given as goal

abbrev pub invariant-loop-place : goal.invariant-loop-place
invariant-loop-place l = first (flat_map param_faults (map (plain_place []) (drop l.place-index l.places))) ≡ first (flat_map param_faults (map (plain_place []) l.places))
