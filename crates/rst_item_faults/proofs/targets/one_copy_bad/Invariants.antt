use Rattle.std.proofs.Common.{◌≡◌, map, drop}
use Rattle.std.specs.List.{list_any}
use Rattle.rst_tree.specs.Modules.{PlainCopied, plain_copied}
use Rattle.rst_items.specs.ItemRows.{has_bad_link}
use Rattle.rst_items.specs.Tables.{seen_site, placed_in}
use Rattle.rst_item_faults.proofs.targets.one_copy_bad.Given as goal

-- what is left has the same answer as all of them
abbrev pub invariant-loop-copy : goal.invariant-loop-copy
invariant-loop-copy l =
    list_any (λ (c : PlainCopied). has_bad_link (seen_site l.site) c (placed_in l.whole l.site.located.now c)) (map plain_copied (drop l.copy-index l.copies))
    ≡ list_any (λ (c : PlainCopied). has_bad_link (seen_site l.site) c (placed_in l.whole l.site.located.now c)) (map plain_copied l.copies)
