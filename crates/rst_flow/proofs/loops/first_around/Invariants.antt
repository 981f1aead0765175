use Rattle.std.proofs.Common.{ℕ, ◌<◌}
use Rattle.rst_order.specs.Graphs.{graph_of}
use Rattle.rst_flow.specs.Tables.{table_of, row, IsAround}
use Rattle.rst_flow.proofs.loops.first_around.Given as goal

abbrev pub invariant-loop-signal : goal.invariant-loop-signal
invariant-loop-signal l = (j : ℕ) → j < l.signal → IsAround (graph_of l.predecessors) (row (table_of l.drives) j) → ⊥
