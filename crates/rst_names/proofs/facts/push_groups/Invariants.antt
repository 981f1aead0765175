use Rattle.std.proofs.Common.{◌≡◌, ◌++◌, map, drop, Bor}
use Rattle.std.specs.List.{flat_map}
use Rattle.rst_tree.specs.Trees.{Text}
use Rattle.rst_tree.specs.Modules.{plain_param_decl}
use Rattle.rst_names.specs.Declarations.{settable_of}
use Rattle.rst_names.proofs.facts.push_groups.Given as goal

abbrev pub invariant-loop-d : goal.invariant-loop-d
invariant-loop-d l = map (λ (n : Bor Text). n.now) l.made.items ++ flat_map settable_of (map plain_param_decl (drop l.d-index l.params)) ≡ map (λ (n : Bor Text). n.now) l.fn.made.items ++ flat_map settable_of (map plain_param_decl l.params)
