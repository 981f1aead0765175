use Rattle.std.proofs.Common.{◌≡◌, ◌++◌, map, drop}
use Rattle.std.specs.List.{flat_map}
use Rattle.rst_tree.specs.Modules.{plain_assign}
use Rattle.rst_width.specs.Scopes.{names_of}
use Rattle.rst_net.specs.Units.{plain_driver}
use Rattle.rst_items.specs.Items.{assign_unit}
use Rattle.rst_items.specs.ItemRows.{assign_faults}
use Rattle.rst_units.proofs.items.push_assigns.Given as goal

-- what is made, and what is left, are the units and the faults of all
abbrev pub invariant-loop-assign : goal.invariant-loop-assign
invariant-loop-assign l = record {
  made : map plain_driver l.units.items ++ map (assign_unit (names_of l.names)) (map plain_assign (drop l.assign-index l.assigns))
      ≡ map plain_driver l.initial.units.items ++ map (assign_unit (names_of l.names)) (map plain_assign l.assigns);
  left : flat_map (assign_faults (names_of l.names)) (map plain_assign (drop l.assign-index l.assigns))
      ≡ flat_map (assign_faults (names_of l.names)) (map plain_assign l.assigns);
}
