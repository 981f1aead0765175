use Rattle.std.proofs.Common.{◌≡◌, map, drop}
use Rattle.std.specs.List.{flat_map}
use Rattle.rst_names.specs.Faults.{first}
use Rattle.rst_instances.specs.Tables.{plain_linked}
use Rattle.rst_items.specs.Tables.{seen_site}
use Rattle.rst_elab.specs.ClockRows.{misused_in_link}
use Rattle.rst_elab.specs.Tables.{test_of}
use Rattle.rst_elab.proofs.clocks.misused_in_links.Given as goal

-- what is left has the first of all
abbrev pub invariant-loop-link : goal.invariant-loop-link
invariant-loop-link l = first (flat_map (misused_in_link (test_of l.test) (seen_site l.inner)) (map plain_linked (drop l.link-index l.links))) ≡ first (flat_map (misused_in_link (test_of l.test) (seen_site l.inner)) (map plain_linked l.links))
