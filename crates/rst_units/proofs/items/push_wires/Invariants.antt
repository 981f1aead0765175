use Rattle.std.proofs.Common.{◌≡◌, ◌++◌, map, drop}
use Rattle.std.specs.List.{flat_map}
use Rattle.rst_tree.specs.Modules.{plain_net_name}
use Rattle.rst_width.specs.Scopes.{names_of}
use Rattle.rst_net.specs.Units.{plain_driver}
use Rattle.rst_items.specs.Items.{wire_unit}
use Rattle.rst_items.specs.ItemRows.{wire_faults}
use Rattle.rst_units.proofs.items.push_wires.Given as goal

-- what is made, and what is left, are the units and the faults of all
abbrev pub invariant-loop-net : goal.invariant-loop-net
invariant-loop-net l = record {
  made : map plain_driver l.units.items ++ flat_map (wire_unit (names_of l.names)) (map plain_net_name (drop l.net-index l.nets))
      ≡ map plain_driver l.initial.units.items ++ flat_map (wire_unit (names_of l.names)) (map plain_net_name l.nets);
  left : flat_map (wire_faults (names_of l.names)) (map plain_net_name (drop l.net-index l.nets))
      ≡ flat_map (wire_faults (names_of l.names)) (map plain_net_name l.nets);
}
