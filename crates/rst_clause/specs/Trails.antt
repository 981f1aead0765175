-- A trail: literals that stand, in the order in which they came.
use Rattle.std.specs.Prelude.{◌≡◌, ◌≢◌, ℕ, ◌+◌, ◌*◌, ◌^◌, ◌<◌, ℤ, pos, negsuc, Bool, true, false, not, List, [], ◌∷◌, ◌++◌, length, slice_set, slice_index_or, unsigned_abs}
use Rattle.std.specs.List.{Contains, All, count_by}
use Rattle.rst_clause.specs.Literals.{opposite, IsLiteral}

pub record Trail' : Type 0 where
  pub vars : ℕ
  pub lits : List ℤ
  pub reasons : List ℕ

-- one more literal, with the number of the clause that implies it. Reasons stand by variable
abbrev pub pushed : Trail' → ℤ → ℕ → Trail'
pushed t l r = record { vars = t.vars; lits = t.lits ++ l ∷ []; reasons = slice_set t.reasons (unsigned_abs l) r }

-- where the mark of a literal stands
abbrev pub place_of : ℤ → ℕ
place_of (pos n) = 2 * n
place_of (negsuc n) = 2 * n + 3

-- no literal stands with its opposite
abbrev pub IsConsistent : List ℤ → Type 0
IsConsistent t = (k : ℤ) → Contains t k → Contains t (opposite k) → ⊥

-- no literal stands twice
abbrev pub IsOnce : List ℤ → Type 0
IsOnce t = (i j : ℕ) → i < j → j < length t → slice_index_or t i (pos 0) ≢ slice_index_or t j (pos 0)

-- the marks are those of the literals
pub record AreMarks (vars : ℕ) (lits : List ℤ) (reasons : List ℕ) (marks : List Bool) : Type 0 where
  pub few : vars < 2 ^ 31
  pub size : length marks ≡ 2 * vars + 2
  pub slots : length reasons ≡ vars + 1
  pub room : length lits + count_by not marks ≡ 2 * vars + 2
  pub in_range : All (IsLiteral vars) lits
  pub consistent : IsConsistent lits
  pub once : IsOnce lits
  pub stands : (k : ℤ) → slice_index_or marks (place_of k) false ≡ true → Contains lits k
  pub marked : (k : ℤ) → Contains lits k → slice_index_or marks (place_of k) false ≡ true

-- each literal of the clause is false on the trail
abbrev pub AllFalse : List ℤ → List ℤ → Type 0
AllFalse t clause = (k : ℤ) → Contains clause k → Contains t (opposite k)

-- each other literal of the clause is false on the trail
abbrev pub AllFalseBut : List ℤ → List ℤ → ℤ → Type 0
AllFalseBut t clause l = (k : ℤ) → Contains clause k → k ≢ l → Contains t (opposite k)

-- the clause is not false, and what it implies stands
pub record IsQuiet (t clause : List ℤ) : Type 0 where
  pub not_false : AllFalse t clause → ⊥
  pub implied : (l : ℤ) → Contains clause l → AllFalseBut t clause l → Contains t l

-- the clause implies a literal that is open
pub record IsUnit (t clause : List ℤ) (l : ℤ) : Type 0 where
  pub has : Contains clause l
  pub others : AllFalseBut t clause l
  pub not_there : Contains t l → ⊥
  pub not_opposite : Contains t (opposite l) → ⊥

-- every clause is quiet: propagation is complete
abbrev pub IsComplete : List ℤ → List (List ℤ) → Type 0
IsComplete t clauses = (c : List ℤ) → Contains clauses c → IsQuiet t c

-- the trail grows by literals that clauses imply, one after another
pub data Grows (clauses : List (List ℤ)) (from : Trail') : Trail' → Type 0 where
  same : Grows clauses from from
  more : (t : Trail') (l : ℤ) (r : ℕ) → Grows clauses from t → r < length clauses → unsigned_abs l < length t.reasons
      → IsUnit t.lits (slice_index_or clauses r []) l → Grows clauses from (pushed t l r)
