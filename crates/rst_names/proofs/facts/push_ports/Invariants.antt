use Rattle.std.proofs.Common.{◌≡◌, ◌++◌, map, drop, Bor}
use Rattle.rst_tree.specs.Trees.{Text}
use Rattle.rst_names.specs.Tables.{plain_declared, signal_by}
use Rattle.rst_names.proofs.facts.push_ports.Given as goal

abbrev pub invariant-loop-name : goal.invariant-loop-name
invariant-loop-name l = map plain_declared l.made.items ++ map (signal_by l.summaries) (map (λ (n : Bor Text). n.now) (drop l.name-index l.ports)) ≡ map plain_declared l.fn.made.items ++ map (signal_by l.summaries) (map (λ (n : Bor Text). n.now) l.ports)
