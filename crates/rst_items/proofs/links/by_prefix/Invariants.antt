use Rattle.std.proofs.Common.{◌≡◌, nat_eq, position, take}
use Rattle.std.specs.Cmp.Lexicographic.{pointwise}
use Rattle.indexmap.specs.IndexMap.{get}
use Rattle.rst_tree.specs.Trees.{Text}
use Rattle.rst_names.specs.Names.{same_text}
use Rattle.rst_instances.specs.declared.design.Located.{Located}
use Rattle.rst_items.proofs.links.by_prefix.Given as goal

-- the table has the first place of each prefix among those before this one
abbrev pub invariant-loop-place : goal.invariant-loop-place
invariant-loop-place l = (prefix : Text) → get (pointwise nat_eq) l.made prefix ≡ position (λ (x : Located). same_text x.place.prefix prefix) (take l.place l.all)
