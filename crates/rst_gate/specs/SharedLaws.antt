-- What holds of shared gates, over any operations.
use Rattle.std.specs.Prelude.{◌≡◌, ℕ, ◌<◌, List, length, slice_index_or}
use Rattle.rst_gate.specs.declared.edge.Edge.{Edge}
use Rattle.rst_gate.specs.declared.edge.Gate.{Gate}
use Rattle.rst_gate.specs.Operations.{Operations}
use Rattle.rst_gate.specs.GateLists.{GateList}
use Rattle.rst_gate.specs.Nodes.{values_behind}
use Rattle.rst_gate.specs.SharedGates.{asked_and, asked_xor, asked_mux}
use Rattle.rst_gate.specs.EdgeValues.{IsPrefix, IsRead, value_in}

-- behind further gates each earlier node has its value
abbrev pub KeepsNodes : {X : Type 0} → Operations X → Type 0
KeepsNodes {X} O = (gates : List Gate) (start : List X) (node : ℕ) → node < length start
    → slice_index_or (values_behind O gates start) node O.low ≡ slice_index_or start node O.low

-- in any gates that begin with those behind an asked edge, the edge has the value of the operation
pub record AskedAre {X : Type 0} (O : Operations X) : Type 0 where
  pub both : (G g : GateList) (sources : List X) (a b : Edge) → IsRead G sources → IsPrefix G (asked_and g a b).0
      → value_in O G sources (asked_and g a b).1 ≡ O.both (value_in O G sources a) (value_in O G sources b)
  pub differ : (G g : GateList) (sources : List X) (a b : Edge) → IsRead G sources → IsPrefix G (asked_xor g a b).0
      → value_in O G sources (asked_xor g a b).1 ≡ O.differ (value_in O G sources a) (value_in O G sources b)
  pub choice : (G g : GateList) (sources : List X) (s a b : Edge) → IsRead G sources → IsPrefix G (asked_mux g s a b).0
      → value_in O G sources (asked_mux g s a b).1 ≡ O.choice (value_in O G sources s) (value_in O G sources a) (value_in O G sources b)
  pub grows_and : (G g : GateList) (a b : Edge) → IsPrefix G (asked_and g a b).0 → IsPrefix G g
  pub grows_xor : (G g : GateList) (a b : Edge) → IsPrefix G (asked_xor g a b).0 → IsPrefix G g
  pub grows_mux : (G g : GateList) (s a b : Edge) → IsPrefix G (asked_mux g s a b).0 → IsPrefix G g

-- no two gates are equal
abbrev pub AreDifferent : List Gate → Type 0
AreDifferent gates = (i j : ℕ) (d : Gate) → i < j → j < length gates → slice_index_or gates i d ≡ slice_index_or gates j d → ⊥

-- where no two gates are equal before a call, none are behind it
pub record KeepsDifferent : Type 0 where
  pub both : (g : GateList) (a b : Edge) → AreDifferent g.gates → AreDifferent (asked_and g a b).0.gates
  pub differ : (g : GateList) (a b : Edge) → AreDifferent g.gates → AreDifferent (asked_xor g a b).0.gates
  pub choice : (g : GateList) (s a b : Edge) → AreDifferent g.gates → AreDifferent (asked_mux g s a b).0.gates
