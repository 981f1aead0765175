use Rattle.std.proofs.Common.{◌≡◌, map, take, position, nat_eq, Bor}
use Rattle.std.specs.Cmp.Lexicographic.{pointwise}
use Rattle.indexmap.specs.IndexMap.{get}
use Rattle.rst_tree.specs.Trees.{Text}
use Rattle.rst_names.specs.Names.{same_text}
use Rattle.rst_names.proofs.facts.places.Given as goal

abbrev pub invariant-loop-at : goal.invariant-loop-at
invariant-loop-at l = (name : Text) → get (pointwise nat_eq) l.made name ≡ position (λ (n : Text). same_text n name) (take l.at (map (λ (n : Bor Text). n.now) l.names))
