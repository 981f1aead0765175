-- Directed graphs. The vertices are the numbers below the length of a list, which has, for each vertex, its predecessors: those
-- from which an edge leads to it.
use Rattle.std.specs.Prelude.{◌≡◌, ℕ, ◌<◌, List, [], ◌∷◌, length, map, slice_index_or}
use Rattle.std.specs.List.{Contains}
use Rattle.std.specs.declared.vec.Vec.{Vec}
use Rattle.std.specs.declared.alloc.Global.{Global}

abbrev pub Graph : Type 0
Graph = List (List ℕ)

abbrev pub graph_of : List (Vec ℕ Global) → Graph
graph_of predecessors = map (λ v. v.items) predecessors

-- an edge leads from a to b
abbrev pub Precedes : Graph → ℕ → ℕ → Type 0
Precedes graph a b = Contains (slice_index_or graph b []) a

-- a path of one edge or more
pub data Reaches (graph : Graph) : ℕ → ℕ → Type 0 where
  edge : {a b : ℕ} → Precedes graph a b → Reaches graph a b
  further : {a b c : ℕ} → Precedes graph a b → Reaches graph b c → Reaches graph a c

abbrev pub OnCycle : Graph → ℕ → Type 0
OnCycle graph v = Reaches graph v v

abbrev pub HasCycle : Graph → Type 0
HasCycle graph = (v : ℕ) × OnCycle graph v

-- every edge leads from a vertex
abbrev pub IsGraph : Graph → Type 0
IsGraph graph = (a b : ℕ) → Precedes graph a b → a < length graph
