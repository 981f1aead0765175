use Rattle.std.proofs.Common.{◌≡◌, map, take, nat_eq, Bor, position}
use Rattle.std.specs.Cmp.Lexicographic.{pointwise}
use Rattle.indexmap.specs.IndexMap.{get}
use Rattle.rst_tree.specs.Trees.{Text}
use Rattle.rst_tree.specs.declared.module.Module.{Module}
use Rattle.rst_tree.specs.Modules.{PlainModule, plain_module}
use Rattle.rst_names.specs.Names.{same_text}
use Rattle.rst_hierarchy.proofs.modules.places.Given as goal

abbrev pub invariant-loop-place : goal.invariant-loop-place
invariant-loop-place l = (name : Text) → get (pointwise nat_eq) l.made name ≡ position (λ (k : PlainModule). same_text k.name name) (take l.place (map (λ (r : Bor Module). plain_module r.now) l.list))
