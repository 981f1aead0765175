-- What the table and the graph that the code makes say of the units.
use Rattle.std.proofs.Common.{◌≡◌, sym, subst, ℕ, ◌<◌, List, length, arith}
use Rattle.std.proofs.lemmas.List.{length-map}
use Rattle.std.specs.declared.vec.Vec.{Vec}
use Rattle.std.specs.declared.alloc.Global.{Global}
use Rattle.rst_order.specs.Graphs.{Graph, graph_of, IsGraph, OnCycle, HasCycle}
use Rattle.rst_order.specs.Orders.{IsOrder}
use Rattle.rst_net.specs.Units.{PlainDriver}
use Rattle.rst_flow.specs.declared.drives.Drive.{Drive}
use Rattle.rst_flow.specs.Edges.{IsUnitGraph, IsFirstLooped, IsUnitOrder}
use Rattle.rst_flow.specs.Tables.{table_of, row, IsTable, graph_from, IsAround, IsBounded}
use Rattle.rst_flow.proofs.UnitGraph.{unit_graph, is_graph, bounded}
use Rattle.rst_flow.proofs.Cycles.{around_looped, looped_around, cycle_looped}

module _ (count : ℕ) (units : List PlainDriver) (drives : List (Vec Drive Global)) (predecessors : List (Vec ℕ Global)) (is : IsTable count units (table_of drives))
    (made : graph_of predecessors ≡ graph_from (table_of drives) 0 units) where
  pub made_graph : IsGraph (graph_of predecessors)
  made_graph = subst (λ (g : Graph). IsGraph g) (sym made) (is_graph count units (table_of drives) is)

  made_edges : IsUnitGraph count units (graph_of predecessors)
  made_edges = subst (λ (g : Graph). IsUnitGraph count units g) (sym made) (unit_graph count units (table_of drives) is)

  pub made_bounded : IsBounded (length predecessors) (table_of drives)
  made_bounded i k drive at =
      let below = bounded count units (table_of drives) is i k drive at in
      let vertices = made_edges.vertices in
      omega (arith, below, vertices, length-map predecessors (λ (v : Vec ℕ Global). v.items))

  pub made_order : (order : List ℕ) → IsOrder (graph_of predecessors) order → ((v : ℕ) → OnCycle (graph_of predecessors) v → ⊥) → IsUnitOrder count units order
  made_order order steps acyclic = record { graph = graph_of predecessors; edges = made_edges; steps = steps; acyclic = acyclic }

  few : length (table_of drives) ≡ count
  few = is.signals

  pub made_first : (i : ℕ) → i < length (table_of drives) → IsAround (graph_of predecessors) (row (table_of drives) i)
      → ((j : ℕ) → j < i → IsAround (graph_of predecessors) (row (table_of drives) j) → ⊥) → IsFirstLooped count units i
  made_first i below here before =
      let known : i < count = subst (λ n. i < n) few below in
      record {
        graph = graph_of predecessors;
        edges = made_edges;
        known = known;
        looped = around_looped count units (table_of drives) is (graph_of predecessors) i known here;
        first = λ j smaller looped. before j smaller (looped_around count units (table_of drives) is (graph_of predecessors) j (omega arith) looped);
      }

  pub made_none : HasCycle (graph_of predecessors) → ((i : ℕ) → i < length (table_of drives) → IsAround (graph_of predecessors) (row (table_of drives) i) → ⊥) → ⊥
  made_none cycle none =
      let l = cycle_looped count units (table_of drives) is (graph_of predecessors) made_edges cycle in
      none l.0 (subst (λ n. l.0 < n) (sym few) l.1) (looped_around count units (table_of drives) is (graph_of predecessors) l.0 l.1 l.2)
