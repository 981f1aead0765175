-- Unit propagation, as the least set of literals that is closed under its one rule; and logs that refute.
use Rattle.std.specs.Prelude.{◌≡◌, ◌≢◌, ℕ, ◌<◌, ℤ, List, [], ◌∷◌, ◌++◌, map, take, length, slice_index_or}
use Rattle.std.specs.List.{Contains}
use Rattle.rst_clause.specs.Literals.{opposite, AreClauses}

-- The literals that unit propagation finds: one is found where some clause has it, and the opposite of each
-- other literal of that clause is found. A clause is the set of its literals, so one that repeats a literal
-- is read as if it had it once.
pub data Derived (clauses : List (List ℤ)) : ℤ → Type 0 where
  unit : (c : List ℤ) (l : ℤ) → Contains clauses c → Contains c l
      → ((k : ℤ) → Contains c k → k ≢ l → Derived clauses (opposite k)) → Derived clauses l

-- each of the literals is found
abbrev pub AllDerived : List (List ℤ) → List ℤ → Type 0
AllDerived clauses lits = (k : ℤ) → Contains lits k → Derived clauses k

-- unit propagation gives the empty clause: all literals of some clause are false
abbrev pub Closes : List (List ℤ) → Type 0
Closes clauses = (c : List ℤ) × Contains clauses c × ((k : ℤ) → Contains c k → Derived clauses (opposite k))

-- a clause of one literal for each literal of the list
abbrev pub units : List ℤ → List (List ℤ)
units ls = map (λ l. l ∷ []) ls

-- a clause of one literal against each literal of the clause
abbrev pub units_against : List ℤ → List (List ℤ)
units_against clause = map (λ l. opposite l ∷ []) clause

-- a clause follows by unit propagation: with all its literals false, propagation gives the empty clause
abbrev pub Follows : List (List ℤ) → List ℤ → Type 0
Follows clauses clause = Closes (units_against clause ++ clauses)

-- A log that refutes clauses over the variables 1 to vars: every literal of the log is in range, each line
-- follows by unit propagation from the clauses and the earlier lines, and the last line is the empty clause.
pub record IsRefutation (vars : ℕ) (clauses log : List (List ℤ)) : Type 0 where
  pub in_range : AreClauses vars log
  pub follows : (i : ℕ) → i < length log → Follows (clauses ++ take i log) (slice_index_or log i [])
  pub ends : (earlier : List (List ℤ)) × (log ≡ earlier ++ [] ∷ [])
