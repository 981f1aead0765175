use Rattle.std.proofs.Common.{◌≡◌, ℕ, ◌<◌, [], length, get_or}
use Rattle.std.specs.List.{Contains}
use Rattle.rst_order.specs.Graphs.{graph_of, Precedes}
use Rattle.rst_order.specs.Walks.{IsBounded, ListsBelow}
use Rattle.rst_order.proofs.successors.successors_of.Given as goal

abbrev pub invariant-empty : goal.invariant-empty
invariant-empty l = record { count : length l.successors.items ≡ l.counter; bounded : (a b : ℕ) → Contains (get_or (graph_of l.successors.items) a []) b → ⊥ }

abbrev pub invariant-loop-vertex : goal.invariant-loop-vertex
invariant-loop-vertex l = ListsBelow (graph_of l.predecessors) (graph_of l.successors.items) l.vertex
