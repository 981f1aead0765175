-- Paths: lists of known and unknown places over the free bits.
use Rattle.std.specs.Prelude.{◌≡◌, ◌≢◌, ℕ, suc, ◌<◌, ℤ, pos, negsuc, Bool, true, List, [], ◌∷◌, ◌++◌, length, slice_set, slice_index_or, ◌⊎◌}
use Rattle.std.specs.List.{Contains}
use Rattle.rst_value.specs.declared.tern.Tern.{Tern}
use Rattle.rst_value.specs.declared.tern.Tern.TheVariants.{Zero, One, Unknown}
use Rattle.rst_clause.specs.Literals.{literal_holds, Solves}
use Rattle.rst_clause.specs.Propagation.{Closes, units}

-- the literals of the known places of a path whose first place is the variable n + 1
abbrev pub literals_from : ℕ → List Tern → List ℤ
literals_from n [] = []
literals_from n (Zero ∷ path) = negsuc n ∷ literals_from (suc n) path
literals_from n (One ∷ path) = pos (suc n) ∷ literals_from (suc n) path
literals_from n (Unknown ∷ path) = literals_from (suc n) path

-- the literals of the known places of a path over the free bits
abbrev pub path_literals : List Tern → List ℤ
path_literals path = literals_from 0 path

-- the choice agrees with the known places
abbrev pub LiesIn : (ℕ → Bool) → List Tern → Type 0
LiesIn v path = (k : ℤ) → Contains (path_literals path) k → literal_holds v k ≡ true

-- no choice lies in both
abbrev pub AreDisjoint : List Tern → List Tern → Type 0
AreDisjoint p q = (v : ℕ → Bool) → LiesIn v p → LiesIn v q → ⊥

-- no choice in the path solves the clauses
abbrev pub HasNoSolution : List (List ℤ) → List Tern → Type 0
HasNoSolution clauses path = (v : ℕ → Bool) → LiesIn v path → Solves v clauses → ⊥

-- A path is tight where no place is known, or where one of its known places is needed: unit propagation from
-- the clauses and the other known places gives no empty clause.
abbrev pub IsTight : List (List ℤ) → List Tern → Type 0
IsTight clauses path =
    ((i : ℕ) → i < length path → slice_index_or path i Unknown ≡ Unknown)
    ⊎ ((i : ℕ) × (i < length path) × (slice_index_or path i Unknown ≢ Unknown)
    × (Closes (units (path_literals (slice_set path i Unknown)) ++ clauses) → ⊥))

-- a path over the free bits that is tight and has no solution
pub record IsPath (free : ℕ) (clauses : List (List ℤ)) (path : List Tern) : Type 0 where
  pub width : length path ≡ free
  pub tight : IsTight clauses path
  pub empty : HasNoSolution clauses path

-- no two of the paths meet
abbrev pub AreApart : List (List Tern) → Type 0
AreApart paths = (i j : ℕ) → i < j → j < length paths → AreDisjoint (slice_index_or paths i []) (slice_index_or paths j [])

-- each path has so many places
abbrev pub AreWide : ℕ → List (List Tern) → Type 0
AreWide free paths = (i : ℕ) → i < length paths → length (slice_index_or paths i []) ≡ free

-- the paths are tight, have no solution, and no two of them meet
pub record ArePaths (free : ℕ) (clauses : List (List ℤ)) (paths : List (List Tern)) : Type 0 where
  pub each : (i : ℕ) → i < length paths → IsPath free clauses (slice_index_or paths i [])
  pub apart : AreApart paths
