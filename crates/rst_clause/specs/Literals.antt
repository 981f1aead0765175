-- Literals as signed variable numbers, clauses as lists of them, and choices of a value for each variable.
use Rattle.std.specs.Prelude.{◌≡◌, ℕ, zero, suc, ◌≤◌, ℤ, pos, negsuc, Bool, true, false, not, List, unsigned_abs}
use Rattle.std.specs.List.{Contains, All}

-- the literal of the same variable with the other sign
abbrev pub opposite : ℤ → ℤ
opposite (pos zero) = pos zero
opposite (pos (suc n)) = negsuc n
opposite (negsuc n) = pos (suc n)

-- what a literal says under a choice: its variable's value, or the other one. 0 is no literal, and holds nowhere
abbrev pub literal_holds : (ℕ → Bool) → ℤ → Bool
literal_holds v (pos zero) = false
literal_holds v (pos (suc n)) = v (suc n)
literal_holds v (negsuc n) = not (v (suc n))

-- a clause holds where one of its literals does
abbrev pub Holds : (ℕ → Bool) → List ℤ → Type 0
Holds v clause = (k : ℤ) × Contains clause k × (literal_holds v k ≡ true)

-- a choice solves clauses where each of them holds
abbrev pub Solves : (ℕ → Bool) → List (List ℤ) → Type 0
Solves v clauses = (c : List ℤ) → Contains clauses c → Holds v c

-- a literal of one of the variables 1 to vars
abbrev pub IsLiteral : ℕ → ℤ → Type 0
IsLiteral vars k = (1 ≤ unsigned_abs k) × (unsigned_abs k ≤ vars)

abbrev pub AreLiterals : ℕ → List ℤ → Type 0
AreLiterals vars clause = All (IsLiteral vars) clause

abbrev pub AreClauses : ℕ → List (List ℤ) → Type 0
AreClauses vars clauses = All (AreLiterals vars) clauses
