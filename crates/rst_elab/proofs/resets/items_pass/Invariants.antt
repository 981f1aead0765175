use Rattle.std.proofs.Common.{◌≡◌, map, drop}
use Rattle.std.specs.List.{flat_map}
use Rattle.rst_names.specs.Faults.{first}
use Rattle.rst_tree.specs.Modules.{plain_item}
use Rattle.rst_items.specs.Tables.{seen_site}
use Rattle.rst_elab.specs.ClockRows.{reset_faults_in}
use Rattle.rst_elab.proofs.resets.items_pass.Given as goal

-- what is left has the first of all
abbrev pub invariant-loop-item : goal.invariant-loop-item
invariant-loop-item l = first (flat_map (reset_faults_in (seen_site l.site)) (map plain_item (drop l.item-index l.items))) ≡ first (flat_map (reset_faults_in (seen_site l.site)) (map plain_item l.items))
