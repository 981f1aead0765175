use Rattle.std.proofs.Common.{◌≡◌, ◌++◌, map, drop, Bor}
use Rattle.std.specs.List.{flat_map}
use Rattle.rst_tree.specs.Trees.{Text}
use Rattle.rst_tree.specs.Modules.{PlainPortDecl, plain_port_decl}
use Rattle.rst_names.proofs.facts.push_full.Given as goal

abbrev pub invariant-loop-d : goal.invariant-loop-d
invariant-loop-d l = map (λ (n : Bor Text). n.now) l.made.items ++ flat_map (λ (d : PlainPortDecl). d.names) (map plain_port_decl (drop l.d-index l.ports)) ≡ map (λ (n : Bor Text). n.now) l.fn.made.items ++ flat_map (λ (d : PlainPortDecl). d.names) (map plain_port_decl l.ports)
