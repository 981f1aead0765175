use Rattle.std.proofs.Common.{◌≡◌, ◌++◌, map, drop}
use Rattle.rst_tree.specs.Modules.{plain_copied}
use Rattle.rst_width.specs.Scopes.{names_of}
use Rattle.rst_net.specs.Units.{plain_driver}
use Rattle.rst_items.specs.Items.{link_units, over_copies}
use Rattle.rst_items.specs.ItemRows.{link_faults}
use Rattle.rst_items.specs.Tables.{placed_in}
use Rattle.rst_units.proofs.items.push_copies.Given as goal

-- what is made, and what is left, are the units and the faults of all
abbrev pub invariant-loop-copy : goal.invariant-loop-copy
invariant-loop-copy l = record {
  made : map plain_driver l.units.items ++ over_copies (link_units (names_of l.located.names)) (placed_in l.whole l.located) (map plain_copied (drop l.copy-index l.copies))
      ≡ map plain_driver l.initial.units.items ++ over_copies (link_units (names_of l.located.names)) (placed_in l.whole l.located) (map plain_copied l.copies);
  left : over_copies (link_faults (names_of l.located.names)) (placed_in l.whole l.located) (map plain_copied (drop l.copy-index l.copies))
      ≡ over_copies (link_faults (names_of l.located.names)) (placed_in l.whole l.located) (map plain_copied l.copies);
}
