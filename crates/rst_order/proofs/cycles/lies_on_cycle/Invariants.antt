use Rattle.std.proofs.Common.{◌+◌, length}
use Rattle.rst_order.specs.Graphs.{graph_of}
use Rattle.rst_order.specs.Walks.{missing, IsSearch}
use Rattle.rst_order.proofs.cycles.lies_on_cycle.Given as goal

abbrev pub invariant-loop-next : goal.invariant-loop-next
invariant-loop-next l = IsSearch (graph_of l.predecessors) l.vertex l.marks.items l.waiting.items

abbrev pub decreases-loop-next : goal.decreases-loop-next
decreases-loop-next l = missing l.marks.items + length l.waiting.items
