-- What the tables of the code stand for, as words of the proofs.
use Rattle.std.specs.Prelude.{◌≡◌, ℕ, suc, ◌+◌, ◌<◌, max, nat_eq, nat_lt, Bool, false, not, cond, ◌&&◌, List, [], ◌∷◌, ◌++◌, length, map, slice_index_or, Option, Some, None, slice_get}
use Rattle.std.specs.declared.vec.Vec.{Vec}
use Rattle.std.specs.declared.alloc.Global.{Global}
use Rattle.rst_order.specs.Graphs.{Graph, OnCycle}
use Rattle.rst_net.specs.declared.signal.Slice.{Slice}
use Rattle.rst_net.specs.Units.{PlainDriver, Assign, Process}
use Rattle.rst_blocks.specs.Sets.{unit_targets}
use Rattle.rst_blocks.specs.Reads.{unit_reads}
use Rattle.rst_flow.specs.declared.drives.Drive.{Drive}
use Rattle.rst_flow.specs.declared.flowing.OrderFault.{OrderFault}
use Rattle.rst_flow.specs.declared.flowing.OrderFault.TheVariants as fault
use Rattle.rst_flow.specs.Edges.{IsFirstLooped}

abbrev pub Table : Type 0
Table = List (List Drive)

abbrev pub table_of : List (Vec Drive Global) → Table
table_of drives = map (λ v. v.items) drives

abbrev pub row : Table → ℕ → List Drive
row table i = slice_index_or table i []

-- the drives of a signal among those of a unit
abbrev pub picked : ℕ → ℕ → List Slice → List Drive
picked i unit [] = []
picked i unit (slice ∷ slices) = cond (nat_eq i slice.signal) (record { unit = unit; low = slice.low; width = slice.width } ∷ picked i unit slices) (picked i unit slices)

-- those of the units from a number on
abbrev pub drives_at : ℕ → ℕ → List PlainDriver → List Drive
drives_at i unit [] = []
drives_at i unit (driver ∷ units) = picked i unit (unit_targets driver) ++ drives_at i (suc unit) units

-- a table has the drives of each signal
pub record IsTable (count : ℕ) (units : List PlainDriver) (table : Table) : Type 0 where
  pub signals : length table ≡ count
  pub rows : (i : ℕ) → i < count → row table i ≡ drives_at i 0 units

-- whether a drive and a slice of its signal have a bit in common
abbrev pub overlap : Drive → Slice → Bool
overlap drive slice =
    let first = max drive.low slice.low in
    nat_lt first (drive.low + drive.width) && nat_lt first (slice.low + slice.width)

abbrev pub is_own : Option ℕ → ℕ → Bool
is_own None unit = false
is_own (Some own) unit = nat_eq own unit

abbrev pub is_feeding : Option ℕ → Slice → Drive → Bool
is_feeding own slice drive = not (is_own own drive.unit) && overlap drive slice

-- the units among some drives that feed a slice
abbrev pub feeding : Option ℕ → Slice → List Drive → List ℕ
feeding own slice [] = []
feeding own slice (drive ∷ drives) = cond (is_feeding own slice drive) (drive.unit ∷ feeding own slice drives) (feeding own slice drives)

abbrev pub feeding_all : Table → Option ℕ → List Slice → List ℕ
feeding_all table own [] = []
feeding_all table own (slice ∷ slices) = feeding own slice (row table slice.signal) ++ feeding_all table own slices

abbrev pub own_of : ℕ → PlainDriver → Option ℕ
own_of unit (Assign set) = None
own_of unit (Process process) = Some unit

-- the predecessors of the units from a number on
abbrev pub graph_from : Table → ℕ → List PlainDriver → Graph
graph_from table unit [] = []
graph_from table unit (driver ∷ units) = feeding_all table (own_of unit driver) (unit_reads driver) ∷ graph_from table (suc unit) units

-- a drive with a bit, of a unit on a cycle
pub record IsAround (graph : Graph) (drives : List Drive) : Type 0 where
  pub place : ℕ
  pub drive : Drive
  pub at : slice_get drives place ≡ Some drive
  pub some_bits : 0 < drive.width
  pub around : OnCycle graph drive.unit

-- what a table answers: the first signal with such a drive, if there is one
abbrev pub IsFirstAround : Graph → Table → Option ℕ → Type 0
IsFirstAround graph table None = (i : ℕ) → i < length table → IsAround graph (row table i) → ⊥
IsFirstAround graph table (Some i) = (i < length table) × IsAround graph (row table i) × ((j : ℕ) → j < i → IsAround graph (row table j) → ⊥)

-- every unit of a table is a vertex
abbrev pub IsBounded : ℕ → Table → Type 0
IsBounded count table = (i k : ℕ) (drive : Drive) → slice_get (row table i) k ≡ Some drive → drive.unit < count

-- ---- an order of all units

-- numbers below a bound, each of them once
pub record IsChoice (count : ℕ) (order : List ℕ) : Type 0 where
  pub below : (k : ℕ) → k < length order → slice_index_or order k 0 < count
  pub once : (j k : ℕ) → j < k → k < length order → slice_index_or order j 0 ≡ slice_index_or order k 0 → ⊥

abbrev pub IsOrderFault : ℕ → List PlainDriver → OrderFault → Type 0
IsOrderFault count units (fault.Loop signal) = IsFirstLooped count units signal
IsOrderFault count units fault.NoMemory = Unit {0}
