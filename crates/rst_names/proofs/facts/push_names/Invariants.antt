use Rattle.std.proofs.Common.{◌≡◌, ◌++◌, map, drop, Bor}
use Rattle.rst_tree.specs.Trees.{Text}
use Rattle.rst_names.proofs.facts.push_names.Given as goal

abbrev pub invariant-loop-name : goal.invariant-loop-name
invariant-loop-name l = map (λ (n : Bor Text). n.now) l.made.items ++ drop l.name-index l.names ≡ map (λ (n : Bor Text). n.now) l.fn.made.items ++ l.names
