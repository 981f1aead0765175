-- The values of edges in gates under construction.
use Rattle.std.specs.Prelude.{◌≡◌, ◌+◌, List, ◌∷◌, ◌++◌, length}
use Rattle.rst_gate.specs.declared.edge.Edge.{Edge}
use Rattle.rst_gate.specs.declared.edge.Gate.{Gate}
use Rattle.rst_gate.specs.Operations.{Operations}
use Rattle.rst_gate.specs.Circuits.{IsInOrder}
use Rattle.rst_gate.specs.GateLists.{GateList}
use Rattle.rst_gate.specs.Nodes.{edge_value, values_behind}

-- the gates g are the first ones of G
pub record IsPrefix (G g : GateList) : Type 0 where
  pub inputs : g.inputs ≡ G.inputs
  pub states : g.states ≡ G.states
  pub more : List Gate
  pub gates : G.gates ≡ g.gates ++ more

-- the value of the edge, where the inputs and then the states have these values
abbrev pub value_in : {X : Type 0} → Operations X → GateList → List X → Edge → X
value_in O G sources e = edge_value O (values_behind O G.gates (O.low ∷ sources)) e

-- the edge has the value
abbrev pub Stands : {X : Type 0} → Operations X → GateList → List X → Edge → X → Type 0
Stands O G sources e x = value_in O G sources e ≡ x

-- gates that read earlier nodes, with as many sources as inputs and states
pub record IsRead {X : Type 0} (G : GateList) (sources : List X) : Type 0 where
  pub count : length sources ≡ G.inputs + G.states
  pub in_order : IsInOrder (1 + G.inputs + G.states) G.gates
