use Rattle.std.proofs.Common.{◌≡◌, ◌+◌, map, drop}
use Rattle.std.specs.List.{flat_map, enumerate_from}
use Rattle.rst_tree.specs.Modules.{plain_item}
use Rattle.rst_names.specs.Faults.{first}
use Rattle.rst_items.specs.ItemRows.{target_faults}
use Rattle.rst_items.specs.Tables.{seen_site, placed_in}
use Rattle.rst_item_faults.proofs.targets.items_pass.Given as goal

-- what is left has the first fault of all
abbrev pub invariant-loop-place : goal.invariant-loop-place
invariant-loop-place l = first (flat_map (target_faults (placed_in l.whole l.site.located.now) (seen_site l.site)) (enumerate_from (l.place + 1) (map plain_item (drop l.place l.items))))
    ≡ first (flat_map (target_faults (placed_in l.whole l.site.located.now) (seen_site l.site)) (enumerate_from 1 (map plain_item l.items)))
