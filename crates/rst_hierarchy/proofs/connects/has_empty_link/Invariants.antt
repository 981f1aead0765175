use Rattle.std.proofs.Common.{◌≡◌, map, drop, is_none}
use Rattle.std.specs.List.{list_any}
use Rattle.rst_tree.specs.Modules.{plain_link}
use Rattle.rst_hierarchy.proofs.connects.has_empty_link.Given as goal

abbrev pub invariant-loop-link : goal.invariant-loop-link
invariant-loop-link l = list_any (λ k. is_none k.value) (map plain_link (drop l.link-index l.links)) ≡ list_any (λ k. is_none k.value) (map plain_link l.links)
