-- Words of the proofs: how far an order has come, and what a search knows.
use Rattle.std.specs.Prelude.{◌≡◌, ℕ, ◌+◌, ◌<◌, ◌≤◌, Bool, true, false, cond, ◌⊎◌, List, [], ◌∷◌, length, slice_index_or}
use Rattle.std.specs.List.{Contains, sum_by}
use Rattle.std.specs.Ordering.{nat_cmp}
use Rattle.std.specs.BTreeSet.{BTreeSet, contains}
use Rattle.rst_order.specs.Graphs.{Graph, Precedes, Reaches}
use Rattle.rst_order.specs.Orders.{Continues}

-- whether a vertex is marked
abbrev pub stands : List Bool → ℕ → Bool
stands marks v = slice_index_or marks v false

-- how many marks are missing
abbrev pub missing : List Bool → ℕ
missing marks = sum_by (λ mark. cond mark 0 1) marks

-- whether a vertex is in a set of vertices
abbrev pub queued : BTreeSet ℕ → ℕ → Bool
queued set v = contains nat_cmp set v

-- from one place up to another, each predecessor stands, and where the list goes on the next one doesn't
pub record IsLookedThrough (predecessors : List ℕ) (placed : List Bool) (from to : ℕ) : Type 0 where
  pub begins : from ≤ to
  pub ends : to ≤ length predecessors
  pub stand : (i : ℕ) → from ≤ i → i < to → stands placed (slice_index_or predecessors i 0) ≡ true
  pub waits : to < length predecessors → stands placed (slice_index_or predecessors to 0) ≡ false

-- every edge leads to a vertex
abbrev pub IsBounded : Graph → ℕ → Type 0
IsBounded successors count = (a b : ℕ) → Contains (slice_index_or successors a []) b → b < count

-- the first few of these vertices have one more successor
pub record AddsSuccessor (before after : Graph) (vertices : List ℕ) (count successor : ℕ) : Type 0 where
  pub same_length : length after ≡ length before
  pub kept : (a b : ℕ) → Contains (slice_index_or before a []) b → Contains (slice_index_or after a []) b
  pub added : (i : ℕ) → i < count → Contains (slice_index_or after (slice_index_or vertices i 0) []) successor
  pub bounded : (n : ℕ) → successor < n → IsBounded before n → IsBounded after n

pub record HasSuccessors (graph successors : Graph) : Type 0 where
  pub same_length : length successors ≡ length graph
  pub listed : (a b : ℕ) → Precedes graph a b → Contains (slice_index_or successors a []) b
  pub bounded : IsBounded successors (length graph)

-- what a progress knows: the counts of predecessors that were passed, the marks of the vertices that stand, the vertices that
-- are ready, and the order so far
pub record Stage : Type 0 where
  pub passed : List ℕ
  pub placed : List Bool
  pub ready : ℕ → Bool
  pub order : List ℕ

-- a vertex that is still to be looked at
abbrev pub IsPending : List ℕ → ℕ → ℕ → Type 0
IsPending pending from v = (k : ℕ) × (from ≤ k) × (k < length pending) × (slice_index_or pending k 0 ≡ v)

abbrev pub preds : Graph → ℕ → List ℕ
preds graph v = slice_index_or graph v []

abbrev pub count_of : List ℕ → ℕ → ℕ
count_of passed v = slice_index_or passed v 0

pub record IsStage (graph : Graph) (pending : List ℕ) (from : ℕ) (s : Stage) : Type 0 where
  pub passed_length : length s.passed ≡ length graph
  pub placed_length : length s.placed ≡ length graph
  pub within : (v : ℕ) → v < length graph → count_of s.passed v ≤ length (preds graph v)
  pub stand : (v i : ℕ) → v < length graph → i < count_of s.passed v → stands s.placed (slice_index_or (preds graph v) i 0) ≡ true
  -- the next predecessor doesn't stand, but where the vertex is still to be looked at
  pub waits : (v : ℕ) → v < length graph → count_of s.passed v < length (preds graph v)
      → stands s.placed (slice_index_or (preds graph v) (count_of s.passed v) 0) ≡ true → IsPending pending from v
  pub ready : (v : ℕ) → v < length graph → stands s.placed v ≡ false → count_of s.passed v ≡ length (preds graph v) → s.ready v ≡ true
  pub ready_vertex : (v : ℕ) → s.ready v ≡ true → v < length graph
  pub ready_new : (v : ℕ) → s.ready v ≡ true → stands s.placed v ≡ false
  pub ready_passed : (v : ℕ) → s.ready v ≡ true → count_of s.passed v ≡ length (preds graph v)
  pub placed_ordered : (v : ℕ) → stands s.placed v ≡ true → Contains s.order v
  pub ordered_placed : (v : ℕ) → Contains s.order v → stands s.placed v ≡ true
  pub steps : Continues graph [] s.order

-- a set has the vertices below a number that have no predecessor
pub record HasSources (graph : Graph) (set : ℕ → Bool) (count : ℕ) : Type 0 where
  pub all : (v : ℕ) → v < count → length (preds graph v) ≡ 0 → set v ≡ true
  pub below : (v : ℕ) → set v ≡ true → v < count
  pub only : (v : ℕ) → set v ≡ true → length (preds graph v) ≡ 0

-- a search knows of the marked vertices that they reach one, and keeps in mind those whose predecessors aren't all marked
pub record IsSearch (graph : Graph) (target : ℕ) (marks : List Bool) (open_ : List ℕ) : Type 0 where
  pub marks_length : length marks ≡ length graph
  pub reach : (v : ℕ) → stands marks v ≡ true → Reaches graph v target
  pub first : (u : ℕ) → Precedes graph u target → stands marks u ≡ true
  pub closed : (v u : ℕ) → stands marks v ≡ true → Precedes graph u v → (stands marks u ≡ true) ⊎ Contains open_ v
  pub marked : (v : ℕ) → Contains open_ v → stands marks v ≡ true

-- the first few of some vertices were marked, and those that weren't before wait
pub record IsMarking (vertices : List ℕ) (count : ℕ) (before : List Bool) (waited : List ℕ) (marks : List Bool) (waiting : List ℕ) : Type 0 where
  pub same_length : length marks ≡ length before
  pub kept : (v : ℕ) → stands before v ≡ true → stands marks v ≡ true
  pub marked : (i : ℕ) → i < count → stands marks (slice_index_or vertices i 0) ≡ true
  pub only : (v : ℕ) → stands marks v ≡ true → (stands before v ≡ true) ⊎ Contains vertices v
  pub waits : (v : ℕ) → stands marks v ≡ true → (stands before v ≡ true) ⊎ Contains waiting v
  pub still : (v : ℕ) → Contains waited v → Contains waiting v
  pub waits_marked : (v : ℕ) → Contains waiting v → Contains waited v ⊎ (stands marks v ≡ true)
  pub measure : missing marks + length waiting ≡ missing before + length waited

-- the successors of all vertices, of those edges that lead to a vertex below a number
pub record ListsBelow (graph successors : Graph) (count : ℕ) : Type 0 where
  pub same_length : length successors ≡ length graph
  pub listed : (a b : ℕ) → b < count → Precedes graph a b → Contains (slice_index_or successors a []) b
  pub bounded : IsBounded successors count
