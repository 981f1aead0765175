-- The order of a graph's vertices in which each stands behind its predecessors.
use Rattle.std.specs.Prelude.{◌≡◌, ℕ, ◌<◌, List, [], ◌∷◌, ◌++◌, length}
use Rattle.std.specs.List.{Contains}
use Rattle.rst_order.specs.Graphs.{Graph, Precedes}

-- every predecessor of a vertex stands already
abbrev pub IsReady : Graph → List ℕ → ℕ → Type 0
IsReady graph placed v = (u : ℕ) → Precedes graph u v → Contains placed u

-- what comes next: the first vertex that doesn't stand yet and whose predecessors all stand already
pub record IsNext (graph : Graph) (placed : List ℕ) (v : ℕ) : Type 0 where
  pub vertex : v < length graph
  pub new : Contains placed v → ⊥
  pub ready : IsReady graph placed v
  pub first : (u : ℕ) → u < v → IsReady graph placed u → Contains placed u

-- again and again comes the next vertex
abbrev pub Continues : Graph → List ℕ → List ℕ → Type 0
Continues graph placed [] = Unit {0}
Continues graph placed (v ∷ vs) = IsNext graph placed v × Continues graph (placed ++ v ∷ []) vs

-- the order of all vertices
pub record IsOrder (graph : Graph) (order : List ℕ) : Type 0 where
  pub steps : Continues graph [] order
  pub whole : (v : ℕ) → v < length graph → Contains order v
