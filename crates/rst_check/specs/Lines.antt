-- The lines of a log, one after another.
use Rattle.std.specs.Prelude.{◌≡◌, ℕ, ◌<◌, ℤ, List, [], ◌++◌, length, slice_index_or, take}
use Rattle.rst_clause.specs.Propagation.{Follows}
use Rattle.rst_clause.specs.Trails.{Grows}
use Rattle.rst_clause.specs.Queue.{IsFalseAt}
use Rattle.rst_watch.specs.Propagators.{Propagator', IsSettled}

-- each line follows from the clauses and the earlier lines
abbrev pub EachFollows : List (List ℤ) → List (List ℤ) → Type 0
EachFollows clauses log = (i : ℕ) → i < length log → Follows (clauses ++ take i log) (slice_index_or log i [])

-- what stands begins with what stood, on the same levels and among the same clauses
pub record IsLonger (old new : Propagator') : Type 0 where
  pub clauses : new.clauses ≡ old.clauses
  pub floors : new.floors ≡ old.floors
  pub vars : new.trail.vars ≡ old.trail.vars
  pub more : List ℤ
  pub lits : new.trail.lits ≡ old.trail.lits ++ more

-- what stood stands, on the same levels and among the same clauses, and all of it was propagated
pub record IsBack (old new : Propagator') : Type 0 where
  pub clauses : new.clauses ≡ old.clauses
  pub floors : new.floors ≡ old.floors
  pub vars : new.trail.vars ≡ old.trail.vars
  pub lits : new.trail.lits ≡ old.trail.lits
  pub settled : IsSettled new

-- more stands, which the clauses imply, on the same levels and among the same clauses
pub record IsGrown (old new : Propagator') : Type 0 where
  pub clauses : new.clauses ≡ old.clauses
  pub floors : new.floors ≡ old.floors
  pub vars : new.trail.vars ≡ old.trail.vars
  pub grows : Grows old.clauses old.trail new.trail

-- one of the clauses is false
abbrev pub HasFalse : List (List ℤ) → List ℤ → Type 0
HasFalse clauses t = (i : ℕ) × IsFalseAt clauses t i
