use Rattle.std.proofs.Common.{◌≡◌, List, map, drop, not}
use Rattle.std.specs.List.{list_any}
use Rattle.rst_tree.specs.Trees.{Text}
use Rattle.rst_tree.specs.Modules.{plain_link}
use Rattle.rst_names.specs.Names.{is_among}
use Rattle.rst_hierarchy.specs.Tables.{AreNames}
use Rattle.rst_hierarchy.proofs.connects.names_other.Given as goal

abbrev pub invariant-loop-link : goal.invariant-loop-link
invariant-loop-link l = (list : List Text) → AreNames list l.names → list_any (λ k. not (is_among list k.name)) (map plain_link (drop l.link-index l.links)) ≡ list_any (λ k. not (is_among list k.name)) (map plain_link l.links)
