use Rattle.rst_order.specs.Graphs.{graph_of}
use Rattle.rst_order.specs.Walks.{queued, HasSources}
use Rattle.rst_order.proofs.progress.sources.Given as goal

abbrev pub invariant-loop-vertex : goal.invariant-loop-vertex
invariant-loop-vertex l = HasSources (graph_of l.predecessors) (queued l.set) l.vertex
