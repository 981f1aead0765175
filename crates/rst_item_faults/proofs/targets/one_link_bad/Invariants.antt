use Rattle.std.proofs.Common.{◌≡◌, map, drop}
use Rattle.std.specs.List.{list_any}
use Rattle.rst_instances.specs.Tables.{plain_linked}
use Rattle.rst_items.specs.ItemRows.{is_bad_link}
use Rattle.rst_items.specs.Tables.{seen_site}
use Rattle.rst_item_faults.proofs.targets.one_link_bad.Given as goal

-- what is left has the same answer as all of them
abbrev pub invariant-loop-link : goal.invariant-loop-link
invariant-loop-link l =
    list_any (is_bad_link (seen_site l.site) (seen_site l.inner)) (map plain_linked (drop l.link-index l.links))
    ≡ list_any (is_bad_link (seen_site l.site) (seen_site l.inner)) (map plain_linked l.links)
