-- Choices given by lists of values.
use Rattle.std.specs.Prelude.{◌≡◌, ◌≢◌, ℕ, suc, ◌-◌, ◌<◌, ◌⊎◌, ℤ, pos, negsuc, Bool, true, false, List, [], length, slice_index_or, ◌↔◌}
use Rattle.std.specs.List.{Contains}

-- the choice that gives the variables, from 1, these values
abbrev pub choice_of : List Bool → ℕ → Bool
choice_of values n = slice_index_or values (n - 1) false

-- none of the clauses is empty
abbrev pub AreSome : List (List ℤ) → Type 0
AreSome clauses = (c : List ℤ) → Contains clauses c → c ≢ []

-- one of the two literals of the bit stands
abbrev pub Knows : List ℤ → ℕ → Type 0
Knows lits bit = Contains lits (pos (suc bit)) ⊎ Contains lits (negsuc bit)

-- the bits below n are known
abbrev pub AllKnownTo : List ℤ → ℕ → Type 0
AllKnownTo lits n = (bit : ℕ) → bit < n → Knows lits bit

-- the bit is open: neither of its literals stands
pub record IsOpen (lits : List ℤ) (bit : ℕ) : Type 0 where
  pub not_one : Contains lits (pos (suc bit)) → ⊥
  pub not_zero : Contains lits (negsuc bit) → ⊥

-- the bits are the values of the free bits
pub record IsModel (lits : List ℤ) (free : ℕ) (bits : List Bool) : Type 0 where
  pub width : length bits ≡ free
  pub right : (bit : ℕ) → bit < free → (slice_index_or bits bit false ≡ true) ↔ Contains lits (pos (suc bit))
