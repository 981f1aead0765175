use Rattle.std.proofs.Common.{◌≡◌, ◌++◌, map, drop, Bor}
use Rattle.rst_tree.specs.Trees.{Text}
use Rattle.std.specs.Option.{option_map}
use Rattle.rst_tree.specs.Trees.{plain}
use Rattle.rst_instances.specs.Parameters.{linked_in_order}
use Rattle.rst_instances.specs.Tables.{plain_linked}
use Rattle.rst_instances.proofs.parameters.push_ordered.Given as goal

abbrev pub invariant-loop-place : goal.invariant-loop-place
invariant-loop-place l = map plain_linked l.made.items ++ linked_in_order (map (λ (n : Bor Text). n.now) (drop l.place l.names)) (map (option_map plain) (drop l.place l.values)) ≡ map plain_linked l.fn.made.items ++ linked_in_order (map (λ (n : Bor Text). n.now) l.names) (map (option_map plain) l.values)
