use Rattle.std.proofs.Common.{◌≡◌, ◌++◌, map, drop}
use Rattle.std.specs.List.{flat_map}
use Rattle.rst_net.specs.Units.{plain_driver, plain_process}
use Rattle.rst_names.specs.Faults.{first}
use Rattle.rst_items.specs.Items.{unit_row, clocked_row}
use Rattle.rst_items.specs.ItemRows.{fault_row}
use Rattle.rst_items.specs.Tables.{at_place}
use Rattle.rst_units.proofs.items.push_places.Given as goal

-- what is made, and what is left, are the units, blocks and faults of all
abbrev pub invariant-loop-located : goal.invariant-loop-located
invariant-loop-located l = record {
  units : map plain_driver l.made.units.items ++ flat_map (at_place unit_row l.whole) (drop l.located-index l.all)
      ≡ map plain_driver l.initial.made.units.items ++ flat_map (at_place unit_row l.whole) l.all;
  clocked : map plain_process l.made.clocked.items ++ flat_map (at_place clocked_row l.whole) (drop l.located-index l.all)
      ≡ map plain_process l.initial.made.clocked.items ++ flat_map (at_place clocked_row l.whole) l.all;
  left : first (flat_map (at_place fault_row l.whole) (drop l.located-index l.all))
      ≡ first (flat_map (at_place fault_row l.whole) l.all);
}
