use Rattle.std.proofs.Common.{◌≡◌}
use Rattle.rst_order.specs.Graphs.{graph_of}
use Rattle.rst_order.specs.Walks.{IsStage}
use Rattle.rst_order.specs.Stages.{stage}
use Rattle.rst_order.proofs.progress.Progress.advance.Given as goal

abbrev pub invariant-loop-successor : goal.invariant-loop-successor
invariant-loop-successor l = record {
  looked : IsStage (graph_of l.predecessors) l.pending l.successor-index (stage l.self);
  placed : l.self.placed.items ≡ l.initial.self.placed.items;
}
