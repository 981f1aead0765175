use Rattle.std.proofs.Common.{◌≡◌, map, drop}
use Rattle.std.specs.List.{flat_map}
use Rattle.rst_width.specs.Scopes.{names_of}
use Rattle.rst_names.specs.Faults.{first}
use Rattle.rst_instances.specs.Tables.{plain_linked}
use Rattle.rst_items.specs.ItemRows.{link_width}
use Rattle.rst_items.specs.Tables.{seen_site}
use Rattle.rst_item_faults.proofs.widths.links_pass.Given as goal

-- what is left has the first fault of all
abbrev pub invariant-loop-link : goal.invariant-loop-link
invariant-loop-link l =
    first (flat_map (link_width (names_of l.names) (seen_site l.inner)) (map plain_linked (drop l.link-index l.links)))
    ≡ first (flat_map (link_width (names_of l.names) (seen_site l.inner)) (map plain_linked l.links))
