use Rattle.std.proofs.Common.{◌≡◌, ◌+◌, ◌++◌, map, drop}
use Rattle.std.specs.List.{flat_map, enumerate_from}
use Rattle.rst_tree.specs.Modules.{plain_item}
use Rattle.rst_net.specs.Units.{plain_driver, plain_process}
use Rattle.rst_names.specs.Faults.{first}
use Rattle.rst_items.specs.Items.{item_units, item_clocked}
use Rattle.rst_items.specs.ItemRows.{faults_in}
use Rattle.rst_items.specs.Tables.{seen_site, placed_in}
use Rattle.rst_units.proofs.items.push_items.Given as goal

-- what is made, and what is left, are the units, blocks and faults of all
abbrev pub invariant-loop-place : goal.invariant-loop-place
invariant-loop-place l = record {
  units : map plain_driver l.made.units.items ++ flat_map (item_units (placed_in l.whole l.site.located.now) (seen_site l.site)) (enumerate_from (l.place + 1) (map plain_item (drop l.place l.items)))
      ≡ map plain_driver l.initial.made.units.items ++ flat_map (item_units (placed_in l.whole l.site.located.now) (seen_site l.site)) (enumerate_from 1 (map plain_item l.items));
  clocked : map plain_process l.made.clocked.items ++ flat_map (item_clocked (seen_site l.site)) (enumerate_from (l.place + 1) (map plain_item (drop l.place l.items)))
      ≡ map plain_process l.initial.made.clocked.items ++ flat_map (item_clocked (seen_site l.site)) (enumerate_from 1 (map plain_item l.items));
  left : first (flat_map (faults_in (placed_in l.whole l.site.located.now) (seen_site l.site)) (enumerate_from (l.place + 1) (map plain_item (drop l.place l.items))))
      ≡ first (flat_map (faults_in (placed_in l.whole l.site.located.now) (seen_site l.site)) (enumerate_from 1 (map plain_item l.items)));
}
