-- Each choice of the free bits extends in exactly one way, and unit propagation finds it.
use Rattle.std.specs.Prelude.{◌≡◌, ℕ, zero, suc, ◌<◌, ◌≤◌, ℤ, pos, negsuc, Bool, if◌then◌else◌, List, [], ◌∷◌, ◌++◌}
use Rattle.rst_clause.specs.Literals.{Solves}
use Rattle.rst_clause.specs.Propagation.{Derived, units}

-- the two choices give the variables 1 to n the same values
abbrev pub AgreeTo : ℕ → (ℕ → Bool) → (ℕ → Bool) → Type 0
AgreeTo n v w = (i : ℕ) → 1 ≤ i → i ≤ n → v i ≡ w i

-- the literal of the variable n + 1 that holds where it has this value
abbrev pub literal_of : Bool → ℕ → ℤ
literal_of b n = if b then pos (suc n) else negsuc n

-- the literals of the variables 1 to n that hold under the choice
abbrev pub choice_literals : (ℕ → Bool) → ℕ → List ℤ
choice_literals v zero = []
choice_literals v (suc n) = choice_literals v n ++ literal_of (v (suc n)) n ∷ []

-- Each choice of the variables 1 to free extends to a solution; solutions that agree there agree on all
-- variables; and unit propagation from the free bits of a solution finds each of its literals.
pub record HasOneExtension (free vars : ℕ) (clauses : List (List ℤ)) : Type 0 where
  pub exists : (choice : ℕ → Bool) → (v : ℕ → Bool) × AgreeTo free choice v × Solves v clauses
  pub only : (v w : ℕ → Bool) → Solves v clauses → Solves w clauses → AgreeTo free v w → AgreeTo vars v w
  pub found : (v : ℕ → Bool) → Solves v clauses → (n : ℕ) → n < vars
      → Derived (units (choice_literals v free) ++ clauses) (literal_of (v (suc n)) n)
