-- The graph of the units of a flat design. Unit A precedes unit B where B reads a bit that A drives; a block's own bits don't count
-- for itself.
use Rattle.std.specs.Prelude.{◌≡◌, ℕ, ◌<◌, Bool, true, false, List, [], ◌∷◌, length, slice_get, Option, Some, None}
use Rattle.rst_order.specs.Graphs.{Graph, Precedes, OnCycle}
use Rattle.rst_order.specs.Orders.{IsOrder}
use Rattle.rst_net.specs.Units.{PlainDriver, Assign, Process}
use Rattle.rst_cycle.specs.Drivers.{target_has, drives}
use Rattle.rst_blocks.specs.Reads.{unit_reads}

abbrev pub is_block : PlainDriver → Bool
is_block (Assign set) = false
is_block (Process process) = true

-- b reads a bit that a drives, of one of the design's signals
pub record Feeds (count : ℕ) (a b : PlainDriver) : Type 0 where
  pub signal : ℕ
  pub place : ℕ
  pub known : signal < count
  pub driven : drives a signal place ≡ true
  pub read : target_has (unit_reads b) signal place ≡ true

-- an edge from the unit with the number a to the one with the number b, in a design with this many signals
pub record IsEdge (count : ℕ) (units : List PlainDriver) (a b : ℕ) : Type 0 where
  pub before : PlainDriver
  pub behind : PlainDriver
  pub at_a : slice_get units a ≡ Some before
  pub at_b : slice_get units b ≡ Some behind
  pub feeds : Feeds count before behind
  pub not_own : a ≡ b → is_block behind ≡ false

-- a graph has the edges of the units
pub record IsUnitGraph (count : ℕ) (units : List PlainDriver) (graph : Graph) : Type 0 where
  pub vertices : length graph ≡ length units
  pub sound : (a b : ℕ) → Precedes graph a b → IsEdge count units a b
  pub complete : (a b : ℕ) → IsEdge count units a b → Precedes graph a b

-- a bit of a signal is driven by a unit that lies on a cycle
pub record IsLooped (units : List PlainDriver) (graph : Graph) (signal : ℕ) : Type 0 where
  pub unit : ℕ
  pub driver : PlainDriver
  pub place : ℕ
  pub at : slice_get units unit ≡ Some driver
  pub driven : drives driver signal place ≡ true
  pub around : OnCycle graph unit

-- The first signal that has such a bit.
pub record IsFirstLooped (count : ℕ) (units : List PlainDriver) (signal : ℕ) : Type 0 where
  pub graph : Graph
  pub edges : IsUnitGraph count units graph
  pub known : signal < count
  pub looped : IsLooped units graph signal
  pub first : (j : ℕ) → j < signal → IsLooped units graph j → ⊥

-- The order of the units: again and again comes the first unit in flat order that doesn't stand yet and whose predecessors all stand
-- already. None of them lies on a cycle.
pub record IsUnitOrder (count : ℕ) (units : List PlainDriver) (order : List ℕ) : Type 0 where
  pub graph : Graph
  pub edges : IsUnitGraph count units graph
  pub steps : IsOrder graph order
  pub acyclic : (v : ℕ) → OnCycle graph v → ⊥

-- the elements with these numbers
abbrev pub pick : {X : Type 0} → Option X → List X → List X
pick None rest = rest
pick (Some x) rest = x ∷ rest

abbrev pub picks : {X : Type 0} → List X → List ℕ → List X
picks xs [] = []
picks xs (v ∷ vs) = pick (slice_get xs v) (picks xs vs)
