use Rattle.std.proofs.Common.{◌≡◌, map, drop}
use Rattle.rst_tree.specs.Modules.{plain_copied}
use Rattle.rst_names.specs.Faults.{first}
use Rattle.rst_items.specs.Items.{over_copies}
use Rattle.rst_items.specs.Tables.{placed_in}
use Rattle.rst_elab.specs.ClockRows.{misused_in_link}
use Rattle.rst_elab.specs.Tables.{test_of}
use Rattle.rst_elab.proofs.clocks.misused_in_copies.Given as goal

-- what is left has the first of all
abbrev pub invariant-loop-copy : goal.invariant-loop-copy
invariant-loop-copy l = first (over_copies (misused_in_link (test_of l.test)) (placed_in l.whole l.located) (map plain_copied (drop l.copy-index l.copies))) ≡ first (over_copies (misused_in_link (test_of l.test)) (placed_in l.whole l.located) (map plain_copied l.copies))
