-- What a literal stands for under clauses, once the free bits have values.
use Rattle.std.specs.Prelude.{◌≡◌, ℕ, suc, ◌<◌, ℤ, Bool, false, List, slice_index_or}
use Rattle.rst_clause.specs.Literals.{literal_holds, Solves}

-- the choice gives the free variables, from 1, the bits of the world
abbrev pub BeginsWith : ℕ → List Bool → (ℕ → Bool) → Type 0
BeginsWith free world choice = (i : ℕ) → i < free → choice (suc i) ≡ slice_index_or world i false

-- every choice that begins with the world and solves the clauses gives the literal this bit
abbrev pub StandsUnder : ℕ → List (List ℤ) → List Bool → ℤ → Bool → Type 0
StandsUnder free clauses world z bit =
    (choice : ℕ → Bool) → BeginsWith free world choice → Solves choice clauses → literal_holds choice z ≡ bit
