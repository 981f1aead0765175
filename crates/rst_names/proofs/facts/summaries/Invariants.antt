use Rattle.std.proofs.Common.{◌≡◌, map, take, nat_eq}
use Rattle.std.specs.Cmp.Lexicographic.{pointwise}
use Rattle.indexmap.specs.IndexMap.{get}
use Rattle.rst_tree.specs.Trees.{Text}
use Rattle.rst_names.specs.Tables.{plain_declaration, total_or, total_in}
use Rattle.rst_names.proofs.facts.summaries.Given as goal

abbrev pub invariant-loop-d : goal.invariant-loop-d
invariant-loop-d l = (name : Text) → total_or (get (pointwise nat_eq) l.made name) ≡ total_in (take l.d-index (map plain_declaration l.declarations)) name
