use Rattle.std.proofs.Common.{◌≡◌, ℕ, ◌<◌, true}
use Rattle.rst_order.specs.Graphs.{graph_of, Precedes}
use Rattle.rst_flow.specs.Ranking.{rises}
use Rattle.rst_flow.proofs.ranks.all_rise.Given as goal

abbrev pub invariant-loop-unit : goal.invariant-loop-unit
invariant-loop-unit l = (a b : ℕ) → b < l.unit → Precedes (graph_of l.predecessors) a b → rises l.ranks.rank.items l.ranks.alone.items a b ≡ true
