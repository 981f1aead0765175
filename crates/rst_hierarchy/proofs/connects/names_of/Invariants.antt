use Rattle.std.proofs.Common.{◌≡◌, map, take, nat_eq, Bor}
use Rattle.std.specs.Cmp.Lexicographic.{pointwise}
use Rattle.indexmap.specs.IndexSet.{contains}
use Rattle.rst_tree.specs.Trees.{Text}
use Rattle.rst_names.specs.Names.{is_among}
use Rattle.rst_hierarchy.proofs.connects.names_of.Given as goal

abbrev pub invariant-loop-name : goal.invariant-loop-name
invariant-loop-name l = (q : Text) → contains (pointwise nat_eq) l.set q ≡ is_among (map (λ (n : Bor Text). n.now) (take l.name-index l.names)) q
