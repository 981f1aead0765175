-- Occurrence lists: for each literal the numbers of the clauses in which it occurs.
use Rattle.std.specs.Prelude.{ℕ, ◌<◌, ℤ, List, [], length, slice_index_or}
use Rattle.std.specs.List.{Contains}
use Rattle.rst_clause.specs.Trails.{place_of}

-- the number stands in the list of each literal of the clause
abbrev pub IsNotedTo : List (List ℕ) → List ℤ → ℕ → Type 0
IsNotedTo lists clause number = (k : ℤ) → Contains clause k → Contains (slice_index_or lists (place_of k) []) number

-- the number of each clause stands in the list of each of its literals
abbrev pub IsIndexed : List (List ℤ) → List (List ℕ) → Type 0
IsIndexed clauses lists = (i : ℕ) → i < length clauses → IsNotedTo lists (slice_index_or clauses i []) i

-- what stands in a list still stands there
abbrev pub KeepsLists : List (List ℕ) → List (List ℕ) → Type 0
KeepsLists old new = (p number : ℕ) → Contains (slice_index_or old p []) number → Contains (slice_index_or new p []) number
