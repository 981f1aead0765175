-- The named results of the clause domain: which variable comes next, and the clauses of each operation.
use Rattle.std.specs.Prelude.{ℕ, ◌+◌, max, ℤ, pos, if◌then◌else◌, List, [], ◌∷◌, ◌++◌, unsigned_abs}
use Rattle.rst_value.specs.Domains.{Named}
use Rattle.rst_clause.specs.Literals.{opposite}
use Rattle.rst_clause.specs.Operations.{and_clauses, xor_clauses, mux_clauses}

-- what no gate changes: how many bits are free, and what is asked of them
pub record Aside : Type 0 where
  pub free : ℕ
  pub required : List (List ℤ)

-- the largest variable of the clauses
abbrev pub largest_in : List ℤ → ℕ
largest_in [] = 0
largest_in (z ∷ zs) = max (unsigned_abs z) (largest_in zs)

abbrev pub largest : List (List ℤ) → ℕ
largest [] = 0
largest (clause ∷ clauses) = max (largest_in clause) (largest clauses)

-- the variable that the first clause makes false
abbrev pub false_variable : List (List ℤ) → ℕ
false_variable [] = 0
false_variable (clause ∷ clauses) = largest_in clause

-- the next variable is one more than the largest
abbrev pub next : List (List ℤ) → ℤ
next clauses = pos (largest clauses + 1)

-- a constant is the false variable or its opposite and adds nothing, a negation changes the sign, and each
-- gate is the next variable and adds its clauses
abbrev pub clause_results : Named ℤ
clause_results = record {
  constant = λ c bit. (if bit then opposite (pos (false_variable c)) else pos (false_variable c), c);
  negation = λ c a. (opposite a, c);
  both = λ c a b. (next c, c ++ and_clauses (next c) a b);
  differ = λ c a b. (next c, c ++ xor_clauses (next c) a b);
  choice = λ c s t e. (next c, c ++ mux_clauses (next c) s t e);
}
