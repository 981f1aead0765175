use Rattle.rst_order.specs.Graphs.{graph_of}
use Rattle.rst_order.specs.Walks.{AddsSuccessor}
use Rattle.rst_order.proofs.successors.add_successor.Given as goal

abbrev pub invariant-loop-vertex : goal.invariant-loop-vertex
invariant-loop-vertex l = AddsSuccessor (graph_of l.initial.successors) (graph_of l.successors) l.vertices l.vertex-index l.successor
