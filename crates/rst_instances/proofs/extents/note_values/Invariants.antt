use Rattle.std.proofs.Common.{◌≡◌, map, drop, nat_eq}
use Rattle.std.specs.Cmp.Lexicographic.{pointwise}
use Rattle.indexmap.specs.IndexMap.{get}
use Rattle.rst_tree.specs.Trees.{Text}
use Rattle.rst_width.specs.Scopes.{meaning_of, either_of}
use Rattle.rst_instances.specs.Parameters.{names_from, known_values}
use Rattle.rst_instances.specs.Tables.{plain_valued}
use Rattle.rst_instances.proofs.extents.note_values.Given as goal

abbrev pub invariant-loop-valued : goal.invariant-loop-valued
invariant-loop-valued l = (name : Text) → either_of (meaning_of (get (pointwise nat_eq) l.entries name)) (names_from (known_values (map plain_valued (drop l.valued-index l.values))) name)
    ≡ either_of (meaning_of (get (pointwise nat_eq) l.fn.entries name)) (names_from (known_values (map plain_valued l.values)) name)
