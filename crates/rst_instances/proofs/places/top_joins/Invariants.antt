use Rattle.std.proofs.Common.{◌≡◌, ◌++◌, ◌≤◌, ◌^◌, map, drop, length, Bor}
use Rattle.std.specs.List.{enumerate_from}
use Rattle.std.specs.Option.{option_copied}
use Rattle.rst_tree.specs.Trees.{Text}
use Rattle.rst_tree.specs.Modules.{PlainModule}
use Rattle.rst_names.specs.Declarations.{ports}
use Rattle.rst_names.specs.Tables.{IsFacts}
use Rattle.rst_instances.specs.Places.{top_join}
use Rattle.rst_instances.specs.Tables.{plain_joined}
use Rattle.rst_instances.proofs.places.top_joins.Given as goal

abbrev pub invariant-loop-place : goal.invariant-loop-place
invariant-loop-place l = (m : PlainModule) → IsFacts m l.facts → length (ports m) ≤ 2 ^ 32
    → map plain_joined l.made.items ++ map (λ numbered. (top_join (option_copied l.clock) m numbered).joined) (enumerate_from l.place (map (λ (n : Bor Text). n.now) (drop l.place l.facts.ports.items)))
    ≡ map (λ numbered. (top_join (option_copied l.clock) m numbered).joined) (enumerate_from 0 (map (λ (n : Bor Text). n.now) l.facts.ports.items))
