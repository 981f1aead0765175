-- The solutions of clauses, read on the free bits.
use Rattle.std.specs.Prelude.{◌≡◌, ℕ, ℤ, Bool, List, length}
use Rattle.rst_clause.specs.Literals.{Solves}
use Rattle.rst_clause.specs.Standing.{BeginsWith}

-- The bits are the values of the free variables in a choice that solves the clauses. That there is such a choice
-- is said as a proposition, which names none.
abbrev pub IsSolution : ℕ → List (List ℤ) → List Bool → Type 0
IsSolution free clauses bits = (length bits ≡ free) × ∥ ((v : ℕ → Bool) × BeginsWith free bits v × Solves v clauses) ∥₁
