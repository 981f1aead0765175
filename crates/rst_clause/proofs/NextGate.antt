-- The next gate of the clause domain, whatever its kind: z is the next variable, and new has its clauses at the end.
use Rattle.std.proofs.Common.{◌≡◌, ◌∙◌, ◌++◌, ◌+◌, ◌≤◌, ap, arith, sym, subst, suc, pos, ℕ, ℤ, Bool, List, unsigned_abs}
use Rattle.rst_clause.specs.Literals.{Solves, AreLiterals}
use Rattle.rst_clause.specs.Operations.{Operation, operands, defining, IsGateBehind, IsDefined}
use Rattle.rst_clause.specs.Results.{next}
use Rattle.rst_clause.specs.Standing.{BeginsWith, StandsUnder}
use Rattle.rst_clause.proofs.Gates.{result_of, gate_stands}
use Rattle.rst_clause.proofs.Ranges.{largest_of}
use Rattle.rst_clause.proofs.Extending.{all_nonzero, both_equal}

module _ (o : Operation) (vars : ℕ) (gate : List (List ℤ)) (z : ℤ) (next_is : z ≡ pos (vars + 1)) (gate_is : gate ≡ defining z o) where
  pub gate_behind : AreLiterals vars (operands o) → IsGateBehind vars gate
  gate_behind ok =
      let one : vars + 1 ≡ suc vars = omega arith in
      (o, ok, gate_is ∙ ap (λ k. defining k o) (next_is ∙ ap pos one))

  module _ (free : ℕ) (fixed new : List (List ℤ)) (new_is : new ≡ fixed ++ gate) where
    all_is : new ≡ fixed ++ defining z o
    all_is = new_is ∙ ap (λ m. fixed ++ m) gate_is

    -- the variable and the clauses are those that the named results give
    pub gate_gives : ∥ IsDefined free vars fixed ∥₁ → ◌≡◌ {A = ℤ × List (List ℤ)} (next fixed, fixed ++ defining (next fixed) o) (z, new)
    gate_gives defined =
        let is : next fixed ≡ z = ap (λ (n : ℕ). pos (n + 1)) (largest_of free vars fixed defined) ∙ sym next_is in
        both_equal _ _ _ _ is (ap (λ k. fixed ++ defining k o) is ∙ sym all_is)

    -- the variable stands for what the gate makes of its operands
    pub gate_law : AreLiterals vars (operands o) → (world : List Bool) (bit : Bool)
        → ((choice : ℕ → Bool) → BeginsWith free world choice → Solves choice fixed → result_of choice o ≡ bit) → StandsUnder free new world z bit
    gate_law ok world bit is =
        let low : 1 ≤ unsigned_abs z = rw next_is (omega arith) in
        subst (λ cs. StandsUnder free cs world z bit) (sym all_is) (gate_stands free fixed z o world bit (low, all_nonzero vars (operands o) ok) is)
