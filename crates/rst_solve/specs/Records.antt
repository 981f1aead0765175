-- What a search has noted: the log, and the paths.
use Rattle.std.specs.Prelude.{◌≡◌, ℕ, ◌<◌, ◌⊎◌, ℤ, true, List, [], ◌∷◌, ◌++◌, length, take, slice_index_or}
use Rattle.std.specs.List.{Contains}
use Rattle.rst_value.specs.declared.tern.Tern.{Tern}
use Rattle.rst_clause.specs.Literals.{AreClauses}
use Rattle.rst_clause.specs.Propagation.{Follows}
use Rattle.rst_clause.specs.Paths.{path_literals, ArePaths}
use Rattle.rst_clause.specs.Trails.{IsComplete}
use Rattle.rst_solve.specs.Choices.{AreSome, AllKnownTo, IsOpen}
use Rattle.rst_solve.specs.Tree.{decisions, denied, low, IsAt}
use Rattle.rst_solve.specs.declared.levels.Level.{Level}
use Rattle.rst_solve.specs.declared.tree.Tree.{Tree}

-- each line is in range, and follows from the clauses and the earlier lines
pub record IsLog (vars : ℕ) (clauses log : List (List ℤ)) : Type 0 where
  pub in_range : AreClauses vars log
  pub follows : (i : ℕ) → i < length log → Follows (clauses ++ take i log) (slice_index_or log i [])

-- where a decision is the second value of its bit, the log has a line against the first
abbrev pub HasLines : List (List ℤ) → List Level → Type 0
HasLines log [] = Unit {0}
HasLines log (l ∷ levels) = (l.value ≡ true → Contains log (denied (low l ∷ decisions levels))) × HasLines log levels

-- the path has these literals
abbrev pub HasAll : List Tern → List ℤ → Type 0
HasAll path lits = (k : ℤ) → Contains lits k → Contains (path_literals path) k

-- the path leaves the decisions at one that is the second value of its bit: it has the first
abbrev pub Leaves : List Level → List Tern → Type 0
Leaves [] path = ⊥
Leaves (l ∷ levels) path = ((l.value ≡ true) × HasAll path (low l ∷ decisions levels)) ⊎ Leaves levels path

-- what is noted while the part below the decisions is open
pub record IsOpenBelow (free vars : ℕ) (clauses : List (List ℤ)) (t : Tree) : Type 0 where
  pub at : IsAt free vars clauses t
  pub log : IsLog vars clauses t.log
  pub some : AreSome t.log
  pub lines : HasLines t.log t.levels
  pub paths : ArePaths free clauses t.paths.items
  pub apart : (i : ℕ) → i < length t.paths.items → Leaves t.levels (slice_index_or t.paths.items i [])

-- and once it is closed: the last line denies the decisions
pub record IsClosedBelow (free vars : ℕ) (clauses : List (List ℤ)) (t : Tree) : Type 0 where
  pub at : IsAt free vars clauses t
  pub log : IsLog vars clauses t.log
  pub earlier : List (List ℤ)
  pub last : t.log ≡ earlier ++ denied (decisions t.levels) ∷ []
  pub some : AreSome earlier
  pub lines : HasLines t.log t.levels
  pub paths : ArePaths free clauses t.paths.items
  pub apart : (i : ℕ) → i < length t.paths.items
      → Leaves t.levels (slice_index_or t.paths.items i []) ⊎ HasAll (slice_index_or t.paths.items i []) (decisions t.levels)

-- once the deepest decision l was taken back, below which all is closed
pub record IsLifted (free vars : ℕ) (clauses : List (List ℤ)) (t : Tree) (l : Level) : Type 0 where
  pub at : IsAt free vars clauses t
  pub bit : l.bit < free
  pub complete : IsComplete t.trail.lits clauses
  pub known : AllKnownTo t.trail.lits l.bit
  pub is_open : IsOpen t.trail.lits l.bit
  pub log : IsLog vars clauses t.log
  pub some : AreSome t.log
  pub line : Contains t.log (denied (decisions (l ∷ t.levels)))
  pub lines : HasLines t.log (l ∷ t.levels)
  pub paths : ArePaths free clauses t.paths.items
  pub apart : (i : ℕ) → i < length t.paths.items
      → Leaves (l ∷ t.levels) (slice_index_or t.paths.items i []) ⊎ HasAll (slice_index_or t.paths.items i []) (decisions (l ∷ t.levels))
