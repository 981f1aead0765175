use Rattle.std.proofs.Common.{◌≡◌, map, drop, nat_eq}
use Rattle.std.specs.Cmp.Lexicographic.{pointwise}
use Rattle.indexmap.specs.IndexMap.{get}
use Rattle.rst_tree.specs.Trees.{Text}
use Rattle.rst_width.specs.Scopes.{later_of, either_of}
use Rattle.rst_names.specs.Tables.{plain_declaration}
use Rattle.rst_instances.specs.Parameters.{laters, names_from}
use Rattle.rst_instances.proofs.design.unshaped_names.Given as goal

abbrev pub invariant-loop-d : goal.invariant-loop-d
invariant-loop-d l = (name : Text) → either_of (later_of (get (pointwise nat_eq) l.entries name)) (names_from (laters (map plain_declaration (drop l.d-index l.facts.declarations.items))) name)
    ≡ names_from (laters (map plain_declaration l.facts.declarations.items)) name
