use Rattle.std.proofs.Common.{◌≡◌, ◌++◌, map, drop, Bor}
use Rattle.rst_tree.specs.Trees.{Text}
use Rattle.std.proofs.Common.{nat_eq}
use Rattle.std.specs.Option.{option_map}
use Rattle.std.specs.Cmp.Lexicographic.{pointwise}
use Rattle.indexmap.specs.IndexMap.{get}
use Rattle.rst_instances.specs.Tables.{plain_joined, plain_linked, joined_in}
use Rattle.rst_instances.proofs.places.joins_of.Given as goal

abbrev pub invariant-loop-port : goal.invariant-loop-port
invariant-loop-port l = map plain_joined l.made.items ++ map (joined_in l.outside l.around (λ name. option_map plain_linked (get (pointwise nat_eq) l.links name)) l.facts) (map (λ (n : Bor Text). n.now) (drop l.port-index l.facts.ports.items)) ≡ map (joined_in l.outside l.around (λ name. option_map plain_linked (get (pointwise nat_eq) l.links name)) l.facts) (map (λ (n : Bor Text). n.now) l.facts.ports.items)
