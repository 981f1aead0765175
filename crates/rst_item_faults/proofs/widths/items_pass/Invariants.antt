use Rattle.std.proofs.Common.{◌≡◌, map, drop}
use Rattle.rst_tree.specs.Modules.{plain_item}
use Rattle.rst_names.specs.Faults.{first}
use Rattle.rst_items.specs.ItemRows.{width_row}
use Rattle.rst_items.specs.Tables.{seen_site, placed_in}
use Rattle.rst_item_faults.proofs.widths.items_pass.Given as goal

-- what is left has the first fault of all
abbrev pub invariant-loop-item : goal.invariant-loop-item
invariant-loop-item l =
    first (width_row (placed_in l.whole l.site.located.now) (seen_site l.site) (map plain_item (drop l.item-index l.items)))
    ≡ first (width_row (placed_in l.whole l.site.located.now) (seen_site l.site) (map plain_item l.items))
