use Rattle.std.proofs.Common.{[]}
use Rattle.rst_order.specs.Graphs.{graph_of}
use Rattle.rst_order.specs.Walks.{IsStage, missing}
use Rattle.rst_order.specs.Stages.{stage}
use Rattle.rst_order.proofs.orders.dependency_order.Given as goal

abbrev pub invariant-loop-progress : goal.invariant-loop-progress
invariant-loop-progress l = IsStage (graph_of l.predecessors) [] 0 (stage l.progress)

abbrev pub decreases-loop-progress : goal.decreases-loop-progress
decreases-loop-progress l = missing l.progress.placed.items
