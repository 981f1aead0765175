use Rattle.rst_order.specs.Walks.{IsMarking}
use Rattle.rst_order.proofs.cycles.mark.Given as goal

abbrev pub invariant-loop-vertex : goal.invariant-loop-vertex
invariant-loop-vertex l = IsMarking l.vertices l.vertex-index l.initial.marks l.initial.waiting.items l.marks l.waiting.items
