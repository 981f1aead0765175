use Rattle.std.proofs.Common.{◌≡◌, map, drop}
use Rattle.rst_tree.specs.Modules.{plain_copied}
use Rattle.rst_width.specs.Scopes.{names_of}
use Rattle.rst_names.specs.Faults.{first}
use Rattle.rst_items.specs.Items.{over_copies}
use Rattle.rst_items.specs.ItemRows.{link_width}
use Rattle.rst_items.specs.Tables.{placed_in}
use Rattle.rst_item_faults.proofs.widths.copies_pass.Given as goal

-- what is left has the first fault of all
abbrev pub invariant-loop-copy : goal.invariant-loop-copy
invariant-loop-copy l =
    first (over_copies (link_width (names_of l.located.names)) (placed_in l.whole l.located) (map plain_copied (drop l.copy-index l.copies)))
    ≡ first (over_copies (link_width (names_of l.located.names)) (placed_in l.whole l.located) (map plain_copied l.copies))
