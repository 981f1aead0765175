-- What a look at a clause tells.
use Rattle.std.specs.Prelude.{◌≡◌, ◌≢◌, ◌<◌, ◌≤◌, ℕ, ℤ, List, slice_index_or}
use Rattle.std.specs.List.{Contains}
use Rattle.rst_clause.specs.Literals.{opposite}
use Rattle.rst_watch.specs.declared.look.Seen.{Seen}
use Rattle.rst_watch.specs.declared.look.Seen.TheVariants.{True, Open, Last}

-- the literal isn't false
abbrev pub NotFalse : List ℤ → ℤ → Type 0
NotFalse t l = Contains t (opposite l) → ⊥

-- a literal of the clause stands
abbrev pub HasTrue : List ℤ → List ℤ → Type 0
HasTrue t clause = (k : ℤ) × Contains clause k × Contains t k

-- the clause has a literal that isn't false, other than this one
pub record IsOther (t clause : List ℤ) (other l : ℤ) : Type 0 where
  pub has : Contains clause l
  pub differs : l ≢ other
  pub not_false : NotFalse t l

-- none of the clause's literals stands, and all are false but this one
pub record AreFalseBut (t clause : List ℤ) (other : ℤ) : Type 0 where
  pub none : (k : ℤ) → Contains clause k → Contains t k → ⊥
  pub others : (k : ℤ) → Contains clause k → k ≢ other → Contains t (opposite k)

-- from one place of the clause on and before another all literals are false but this one
abbrev pub AreFalseWithin : List ℤ → List ℤ → ℤ → ℕ → ℕ → Type 0
AreFalseWithin t clause other from end =
    (i : ℕ) (k : ℤ) → from ≤ i → i < end → slice_index_or clause i k ≡ k → k ≢ other → Contains t (opposite k)

abbrev pub Sees : List ℤ → List ℤ → ℤ → Seen → Type 0
Sees t clause other True = HasTrue t clause
Sees t clause other (Open l) = IsOther t clause other l
Sees t clause other Last = AreFalseBut t clause other
