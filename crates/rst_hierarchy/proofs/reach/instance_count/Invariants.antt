use Rattle.std.proofs.Common.{◌≡◌, List, map}
use Rattle.rst_tree.specs.Modules.{PlainModule}
use Rattle.rst_hierarchy.specs.Tables.{placed}
use Rattle.rst_hierarchy.proofs.ReachLemmas.{capped}
use Rattle.rst_hierarchy.proofs.reach.instance_count.Given as goal

abbrev pub invariant-loop-turn : goal.invariant-loop-turn
invariant-loop-turn l = (modules : List PlainModule) → map (λ v. v.items) l.below ≡ map (placed modules) modules → l.counts.items ≡ map (capped modules l._turn) modules
