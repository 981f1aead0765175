-- The clauses that define the further variables, one gate after another (Tseitin's encoding).
use Rattle.std.specs.Prelude.{◌≡◌, ℕ, suc, ◌+◌, ℤ, pos, negsuc, List, [], ◌∷◌, ◌++◌, length}
use Rattle.rst_clause.specs.Literals.{opposite, AreLiterals}

-- the clauses that say: z is a and b
abbrev pub and_clauses : ℤ → ℤ → ℤ → List (List ℤ)
and_clauses z a b =
    (opposite z ∷ a ∷ []) ∷ (opposite z ∷ b ∷ []) ∷ (z ∷ opposite a ∷ opposite b ∷ []) ∷ []

-- the clauses that say: z is the exclusive or of a and b
abbrev pub xor_clauses : ℤ → ℤ → ℤ → List (List ℤ)
xor_clauses z a b =
    (opposite z ∷ a ∷ b ∷ []) ∷ (opposite z ∷ opposite a ∷ opposite b ∷ []) ∷ (z ∷ opposite a ∷ b ∷ []) ∷ (z ∷ a ∷ opposite b ∷ []) ∷ []

-- the clauses that say: z is t where s holds, and e elsewhere
abbrev pub mux_clauses : ℤ → ℤ → ℤ → ℤ → List (List ℤ)
mux_clauses z s t e =
    (opposite z ∷ opposite s ∷ t ∷ []) ∷ (z ∷ opposite s ∷ opposite t ∷ []) ∷ (opposite z ∷ s ∷ e ∷ []) ∷ (z ∷ s ∷ opposite e ∷ []) ∷ []

-- one gate over literals
pub data Operation : Type 0 where
  and_of : ℤ → ℤ → Operation
  xor_of : ℤ → ℤ → Operation
  mux_of : ℤ → ℤ → ℤ → Operation

abbrev pub operands : Operation → List ℤ
operands (and_of a b) = a ∷ b ∷ []
operands (xor_of a b) = a ∷ b ∷ []
operands (mux_of s t e) = s ∷ t ∷ e ∷ []

-- the clauses that make z the result of the gate
abbrev pub defining : ℤ → Operation → List (List ℤ)
defining z (and_of a b) = and_clauses z a b
defining z (xor_of a b) = xor_clauses z a b
defining z (mux_of s t e) = mux_clauses z s t e

-- the clauses make the variable behind n the result of a gate over the variables up to n
abbrev pub IsGateBehind : ℕ → List (List ℤ) → Type 0
IsGateBehind n clauses = (o : Operation) × AreLiterals n (operands o) × (clauses ≡ defining (pos (suc n)) o)

-- the clauses of gates whose results are the variables behind n, in order
abbrev pub all_defining : ℕ → List Operation → List (List ℤ)
all_defining n [] = []
all_defining n (o ∷ os) = defining (pos (suc n)) o ++ all_defining (suc n) os

-- each operand has an earlier variable
abbrev pub AreEarlier : ℕ → List Operation → Type 0
AreEarlier n [] = Unit {0}
AreEarlier n (o ∷ os) = AreLiterals n (operands o) × AreEarlier (suc n) os

-- the clause that makes the variable n + 1 false
abbrev pub denies_next : ℕ → List ℤ
denies_next n = negsuc n ∷ []

-- of the variables 1 to free the clauses say nothing, the variable free + 1 is false by a clause of its own,
-- and each further variable is the result of one gate over earlier ones
pub record IsDefined (free vars : ℕ) (fixed : List (List ℤ)) : Type 0 where
  pub gates : List Operation
  pub shape : fixed ≡ denies_next free ∷ all_defining (suc free) gates
  pub count : vars ≡ suc free + length gates
  pub earlier : AreEarlier (suc free) gates
