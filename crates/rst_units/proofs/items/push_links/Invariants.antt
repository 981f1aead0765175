use Rattle.std.proofs.Common.{◌≡◌, ◌++◌, map, drop}
use Rattle.std.specs.List.{flat_map}
use Rattle.rst_instances.specs.Tables.{plain_linked}
use Rattle.rst_width.specs.Scopes.{names_of}
use Rattle.rst_net.specs.Units.{plain_driver}
use Rattle.rst_items.specs.Items.{link_units}
use Rattle.rst_items.specs.ItemRows.{link_faults}
use Rattle.rst_items.specs.Tables.{seen_site}
use Rattle.rst_units.proofs.items.push_links.Given as goal

-- what is made, and what is left, are the units and the faults of all
abbrev pub invariant-loop-link : goal.invariant-loop-link
invariant-loop-link l = record {
  made : map plain_driver l.units.items ++ flat_map (link_units (names_of l.names) (seen_site l.inner)) (map plain_linked (drop l.link-index l.links))
      ≡ map plain_driver l.initial.units.items ++ flat_map (link_units (names_of l.names) (seen_site l.inner)) (map plain_linked l.links);
  left : flat_map (link_faults (names_of l.names) (seen_site l.inner)) (map plain_linked (drop l.link-index l.links))
      ≡ flat_map (link_faults (names_of l.names) (seen_site l.inner)) (map plain_linked l.links);
}
