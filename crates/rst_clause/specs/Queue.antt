-- Unit propagation by a queue: the trail's literals wait there until the clauses in which they make a literal
-- false were looked at.
use Rattle.std.specs.Prelude.{◌≡◌, ℕ, ◌<◌, ◌≤◌, ℤ, pos, Bool, true, false, List, [], length, slice_index_or, Option, MatchOption}
use Rattle.std.specs.List.{Contains}
use Rattle.rst_clause.specs.Literals.{opposite}
use Rattle.rst_clause.specs.Trails.{Trail', Grows, IsComplete, AllFalse, IsQuiet}

-- the clause is one of the list, and false
abbrev pub IsFalseAt : List (List ℤ) → List ℤ → ℕ → Type 0
IsFalseAt clauses t i = (i < length clauses) × AllFalse t (slice_index_or clauses i [])

-- no literal that came as the n-th or later makes a literal of the clause false
abbrev pub NoneFalseFrom : ℕ → List ℤ → List ℤ → Type 0
NoneFalseFrom n t clause = (p : ℕ) → n ≤ p → p < length t → Contains clause (opposite (slice_index_or t p (pos 0))) → ⊥

-- the clause is quiet, unless a literal that came as the n-th or later makes one of its literals false
abbrev pub IsQuietTo : ℕ → List ℤ → List ℤ → Type 0
IsQuietTo n t clause = NoneFalseFrom n t clause → IsQuiet t clause

-- each clause whose number is among these is
abbrev pub AreQuietTo : List (List ℤ) → (ℕ → Type 0) → ℕ → List ℤ → Type 0
AreQuietTo clauses Among n t = (i : ℕ) → i < length clauses → Among i → IsQuietTo n t (slice_index_or clauses i [])

-- what a look at one clause does: it is false, or what it implies stands
pub record LooksAt (clauses : List (List ℤ)) (i : ℕ) (old new : Trail') (is_false : Bool) : Type 0 where
  pub grows : Grows clauses old new
  pub vars : new.vars ≡ old.vars
  pub false_one : is_false ≡ true → IsFalseAt clauses new.lits i
  pub quiet : is_false ≡ false → IsQuiet new.lits (slice_index_or clauses i [])

-- what looks at the clauses whose numbers are among these do: one is false, or what each implies stands
pub record LooksAtAll (clauses : List (List ℤ)) (Among : ℕ → Type 0) (old new : Trail') (false_one : Option ℕ) : Type 0 where
  pub grows : Grows clauses old new
  pub vars : new.vars ≡ old.vars
  pub outcome : MatchOption false_one (AreQuietTo clauses Among (length old.lits) new.lits) (IsFalseAt clauses new.lits)

-- what propagation leaves: a complete trail, or a clause that is false
pub record Propagates (clauses : List (List ℤ)) (old new : Trail') (false_one : Option ℕ) : Type 0 where
  pub grows : Grows clauses old new
  pub vars : new.vars ≡ old.vars
  pub outcome : MatchOption false_one (IsComplete new.lits clauses) (IsFalseAt clauses new.lits)
