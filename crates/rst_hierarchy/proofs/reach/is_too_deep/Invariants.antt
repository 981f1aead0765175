use Rattle.std.proofs.Common.{◌≡◌, List, map}
use Rattle.rst_tree.specs.Modules.{PlainModule}
use Rattle.rst_hierarchy.specs.Hierarchy.{is_deep}
use Rattle.rst_hierarchy.specs.Tables.{placed}
use Rattle.rst_hierarchy.proofs.reach.is_too_deep.Given as goal

abbrev pub invariant-loop-turn : goal.invariant-loop-turn
invariant-loop-turn l = (modules : List PlainModule) → map (λ v. v.items) l.below ≡ map (placed modules) modules → l.marks.items ≡ map (is_deep l._turn modules) modules
