use Rattle.std.proofs.Common.{◌≡◌, ◌++◌, map, drop}
use Rattle.std.specs.List.{filter_map}
use Rattle.std.specs.Option.{option_map}
use Rattle.rst_tree.specs.Modules.{plain_link}
use Rattle.rst_instances.specs.Parameters.{linked}
use Rattle.rst_instances.specs.Tables.{plain_linked}
use Rattle.rst_instances.proofs.parameters.push_named.Given as goal

abbrev pub invariant-loop-link : goal.invariant-loop-link
invariant-loop-link l = map plain_linked l.made.items ++ filter_map (λ k. option_map (linked k.name) k.value) (map plain_link (drop l.link-index l.links)) ≡ map plain_linked l.fn.made.items ++ filter_map (λ k. option_map (linked k.name) k.value) (map plain_link l.links)
