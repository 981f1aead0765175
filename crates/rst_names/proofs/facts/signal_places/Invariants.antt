use Rattle.std.proofs.Common.{◌≡◌, map, take, position, nat_eq}
use Rattle.std.specs.Cmp.Lexicographic.{pointwise}
use Rattle.indexmap.specs.IndexMap.{get}
use Rattle.rst_tree.specs.Trees.{Text}
use Rattle.rst_names.specs.Names.{same_text}
use Rattle.rst_names.specs.Declarations.{Declared}
use Rattle.rst_names.specs.Tables.{plain_declared}
use Rattle.rst_names.proofs.facts.signal_places.Given as goal

abbrev pub invariant-loop-at : goal.invariant-loop-at
invariant-loop-at l = (name : Text) → get (pointwise nat_eq) l.made name ≡ position (λ (d : Declared). same_text d.name name) (take l.at (map plain_declared l.signals))
