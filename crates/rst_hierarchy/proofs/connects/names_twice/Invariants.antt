use Rattle.std.proofs.Common.{◌≡◌, map, take, drop, nat_eq, []}
use Rattle.std.specs.Cmp.Lexicographic.{pointwise}
use Rattle.indexmap.specs.IndexSet.{contains}
use Rattle.rst_tree.specs.Trees.{Text}
use Rattle.rst_tree.specs.Modules.{plain_link}
use Rattle.rst_names.specs.Faults.{first}
use Rattle.rst_names.specs.Names.{is_among, repeats}
use Rattle.rst_hierarchy.proofs.connects.names_twice.Given as goal

abbrev pub invariant-loop-link : goal.invariant-loop-link
invariant-loop-link l = record {
  table : (q : Text) → contains (pointwise nat_eq) l.seen q ≡ is_among (take l.link-index (map (λ k. k.name) (map plain_link l.links))) q;
  left : first (repeats (take l.link-index (map (λ k. k.name) (map plain_link l.links))) (drop l.link-index (map (λ k. k.name) (map plain_link l.links)))) ≡ first (repeats [] (map (λ k. k.name) (map plain_link l.links)));
}
