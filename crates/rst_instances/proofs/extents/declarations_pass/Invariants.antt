use Rattle.std.proofs.Common.{◌≡◌, map, drop}
use Rattle.std.specs.List.{flat_map}
use Rattle.rst_width.specs.Scopes.{names_with}
use Rattle.rst_names.specs.Faults.{first}
use Rattle.rst_instances.specs.Rows.{plain_ranged, range_faults}
use Rattle.rst_instances.proofs.extents.declarations_pass.Given as goal

abbrev pub invariant-loop-d : goal.invariant-loop-d
invariant-loop-d l = first (flat_map (range_faults l.row l.place.prefix (names_with l.place.params l.tables.unshaped.now)) (map plain_ranged (drop l.d-index l.declarations))) ≡ first (flat_map (range_faults l.row l.place.prefix (names_with l.place.params l.tables.unshaped.now)) (map plain_ranged l.declarations))
