-- What the clauses of a gate say of its result, and that a result which is right solves them.
use Rattle.std.proofs.Common.{◌≡◌, ◌∙◌, ◌↔◌, ℕ, zero, suc, ◌≤◌, inl, inr, ℤ, pos, negsuc, unsigned_abs, Bool, true, false, not, ◌&&◌, ◌||◌, List, [], ◌∷◌, ◌++◌, refl, sym, ap, subst, arith}
use Rattle.std.specs.Bool.{beq}
use Rattle.std.specs.List.{Contains}
use Rattle.std.proofs.lemmas.Bool.{and_from, and_parts, and_cases, false_from_ne_true}
use Rattle.std.proofs.lemmas.List.Elements.{Contains-append_left, Contains-append_right}
use Rattle.rst_value.specs.Bits.{bit_xor, bit_mux}
use Rattle.rst_clause.specs.Literals.{opposite, literal_holds, Holds, Solves}
use Rattle.rst_clause.specs.Operations.{Operation, operands, defining}
use Rattle.rst_clause.specs.Operations.Operation.{and_of, xor_of, mux_of}
use Rattle.rst_clause.specs.Standing.{BeginsWith, StandsUnder}
use Rattle.rst_clause.proofs.Members.{Contains-nil, Contains-first, Contains-later, Contains-cons_cases}

-- one of the literals holds, as a test
abbrev pub some_holds : (ℕ → Bool) → List ℤ → Bool
some_holds v [] = false
some_holds v (z ∷ zs) = literal_holds v z || some_holds v zs

abbrev pub AllHold : (ℕ → Bool) → List (List ℤ) → Type 0
AllHold v [] = Unit {0}
AllHold v (clause ∷ clauses) = (some_holds v clause ≡ true) × AllHold v clauses

or-true-right : (a b : Bool) → b ≡ true → (a || b) ≡ true
or-true-right true b e = refl
or-true-right false b e = e

holds_some : (v : ℕ → Bool) (c : List ℤ) (k : ℤ) → Contains c k → literal_holds v k ≡ true → some_holds v c ≡ true
holds_some v [] k h e = absurd (Contains-nil k h)
holds_some v (x ∷ xs) k h e = elim (Contains-cons_cases x xs k h) [
  | inl s ↦ ap (λ z. z || some_holds v xs) (ap (λ z. literal_holds v z) s ∙ e)
  | inr i ↦ or-true-right (literal_holds v x) (some_holds v xs) (holds_some v xs k i e)
]

some_holds-holds : (v : ℕ → Bool) (c : List ℤ) → some_holds v c ≡ true → Holds v c
some_holds-holds v [] e = absurd (let f : false ≡ true = e in cc)
some_holds-holds v (x ∷ xs) e = by_first (literal_holds v x) refl (λ r. some_holds-holds v xs r)
  where
    by_first : (b : Bool) → literal_holds v x ≡ b → (some_holds v xs ≡ true → Holds v xs) → Holds v (x ∷ xs)
    by_first true f later = (x, Contains-first x xs, f)
    by_first false f later =
        let rest : some_holds v xs ≡ true = sym (ap (λ z. z || some_holds v xs) f) ∙ e in
        let r : Holds v xs = later rest in
        (r.0, Contains-later x xs r.0 r.1, r.2)

pub solves_all : (v : ℕ → Bool) (cs : List (List ℤ)) → Solves v cs → AllHold v cs
solves_all v [] s = tt
solves_all v (c ∷ cs) s =
    let h : Holds v c = s c (Contains-first c cs) in
    (holds_some v c h.0 h.1 h.2, solves_all v cs (λ d i. s d (Contains-later c cs d i)))

pub all_solve : (v : ℕ → Bool) (cs : List (List ℤ)) → AllHold v cs → Solves v cs
all_solve v [] a d h = absurd (Contains-nil d h)
all_solve v (c ∷ cs) a d h = elim (Contains-cons_cases c cs d h) [
  | inl e ↦ subst (λ z. Holds v z) e (some_holds-holds v c a.0)
  | inr i ↦ all_solve v cs a.1 d i
]

pub Solves-left : (v : ℕ → Bool) (c m : List (List ℤ)) → Solves v (c ++ m) → Solves v c
Solves-left v c m s d h = s d (Contains-append_left c m d h)

pub Solves-right : (v : ℕ → Bool) (c m : List (List ℤ)) → Solves v (c ++ m) → Solves v m
Solves-right v c m s d h = s d (Contains-append_right c m d h)

-- more clauses keep what stands
pub stands_more : (free : ℕ) (c m : List (List ℤ)) (world : List Bool) (z : ℤ) (bit : Bool)
    → StandsUnder free c world z bit → StandsUnder free (c ++ m) world z bit
stands_more free c m world z bit h choice begins s = h choice begins (Solves-left choice c m s)

not-not : (b : Bool) → b ≡ not (not b)
not-not true = refl
not-not false = refl

pub holds-opposite : (v : ℕ → Bool) (z : ℤ) → 1 ≤ unsigned_abs z → literal_holds v (opposite z) ≡ not (literal_holds v z)
holds-opposite v (pos zero) h = absurd (omega arith)
holds-opposite v (pos (suc n)) h = refl
holds-opposite v (negsuc n) h = not-not (v (suc n))

-- whether each of the clauses holds
abbrev pub all_hold : (ℕ → Bool) → List (List ℤ) → Bool
all_hold v [] = true
all_hold v (clause ∷ clauses) = some_holds v clause && all_hold v clauses

solves-test : (v : ℕ → Bool) (cs : List (List ℤ)) → Solves v cs → all_hold v cs ≡ true
solves-test v cs s = tested cs (solves_all v cs s)
  where
    tested : (cs : List (List ℤ)) → AllHold v cs → all_hold v cs ≡ true
    tested [] a = refl
    tested (c ∷ cs) a = and_from (some_holds v c) (all_hold v cs) a.0 (tested cs a.1)

test-solves : (v : ℕ → Bool) (cs : List (List ℤ)) → all_hold v cs ≡ true → Solves v cs
test-solves v cs e = all_solve v cs (each cs e)
  where
    each : (cs : List (List ℤ)) → all_hold v cs ≡ true → AllHold v cs
    each [] e = tt
    each (c ∷ cs) e = let both = and_parts (some_holds v c) (all_hold v cs) e in (both.0, each cs both.1)

-- where not all hold, some clause is false
pub test-false : (v : ℕ → Bool) (cs : List (List ℤ)) → all_hold v cs ≡ false
    → (c : List ℤ) × Contains cs c × ((k : ℤ) → Contains c k → literal_holds v k ≡ false)
test-false v [] e = absurd (let f : true ≡ false = e in cc)
test-false v (c ∷ cs) e = elim (and_cases (some_holds v c) (all_hold v cs) e) [
  | inl f ↦ (
    c,
    Contains-first c cs,
    λ k kin. false_from_ne_true (literal_holds v k) (λ t. let both : true ≡ false = sym (holds_some v c k kin t) ∙ f in cc),
  )
  | inr f ↦ let r = test-false v cs f in (r.0, Contains-later c cs r.0 r.1, r.2)
]

-- the value of a gate
abbrev pub result_of : (ℕ → Bool) → Operation → Bool
result_of v (and_of a b) = literal_holds v a && literal_holds v b
result_of v (xor_of a b) = bit_xor (literal_holds v a) (literal_holds v b)
result_of v (mux_of s t e) = bit_mux (literal_holds v s) (literal_holds v t) (literal_holds v e)

abbrev pub Nonzero : List ℤ → Type 0
Nonzero [] = Unit {0}
Nonzero (k ∷ ks) = (1 ≤ unsigned_abs k) × Nonzero ks

and_test : (z a b : Bool) → ((not z || (a || false)) && ((not z || (b || false)) && ((z || (not a || (not b || false))) && true))) ≡ beq z (a && b)
and_test true true true = refl
and_test true true false = refl
and_test true false b = refl
and_test false true true = refl
and_test false true false = refl
and_test false false b = refl

xor_test : (z a b : Bool)
    → ((not z || (a || (b || false))) && ((not z || (not a || (not b || false))) && ((z || (not a || (b || false))) && ((z || (a || (not b || false))) && true)))) ≡ beq z (bit_xor a b)
xor_test true true true = refl
xor_test true true false = refl
xor_test true false true = refl
xor_test true false false = refl
xor_test false true true = refl
xor_test false true false = refl
xor_test false false true = refl
xor_test false false false = refl

mux_test : (z s t e : Bool)
    → ((not z || (not s || (t || false))) && ((z || (not s || (not t || false))) && ((not z || (s || (e || false))) && ((z || (s || (not e || false))) && true)))) ≡ beq z (bit_mux s t e)
mux_test true true true e = refl
mux_test true true false e = refl
mux_test true false t true = refl
mux_test true false t false = refl
mux_test false true true e = refl
mux_test false true false e = refl
mux_test false false t true = refl
mux_test false false t false = refl

-- The one equation of a gate: its clauses hold exactly where its result has its value.
pub gate_test : (v : ℕ → Bool) (z : ℤ) (o : Operation) → Nonzero (z ∷ operands o) → all_hold v (defining z o) ≡ beq (literal_holds v z) (result_of v o)
gate_test v z (and_of a b) h =
    rw (holds-opposite v z h.0, holds-opposite v a h.1.0, holds-opposite v b h.1.1.0) (and_test (literal_holds v z) (literal_holds v a) (literal_holds v b))
gate_test v z (xor_of a b) h =
    rw (holds-opposite v z h.0, holds-opposite v a h.1.0, holds-opposite v b h.1.1.0) (xor_test (literal_holds v z) (literal_holds v a) (literal_holds v b))
gate_test v z (mux_of s t e) h =
    rw (holds-opposite v z h.0, holds-opposite v s h.1.0, holds-opposite v t h.1.1.0, holds-opposite v e h.1.1.1.0)
    (mux_test (literal_holds v z) (literal_holds v s) (literal_holds v t) (literal_holds v e))

-- a choice solves the clauses of a gate exactly where the result has the gate's value
pub gate_says : (v : ℕ → Bool) (z : ℤ) (o : Operation) → Nonzero (z ∷ operands o) → Solves v (defining z o) ↔ (literal_holds v z ≡ result_of v o)
gate_says v z o h = (
  λ s. same (literal_holds v z) (result_of v o) (sym (gate_test v z o h) ∙ solves-test v (defining z o) s),
  λ e. test-solves v (defining z o) (gate_test v z o h ∙ ap (λ b. beq b (result_of v o)) e ∙ itself (result_of v o)),
)
  where
    same : (a b : Bool) → beq a b ≡ true → a ≡ b
    same true true e = refl
    same true false e = sym e
    same false true e = e
    same false false e = refl

    itself : (b : Bool) → beq b b ≡ true
    itself true = refl
    itself false = refl

-- a result that is the gate's value solves the gate's clauses
pub gate_made : (v : ℕ → Bool) (n : ℕ) (o : Operation) → Nonzero (operands o) → v (suc n) ≡ result_of v o → Solves v (defining (pos (suc n)) o)
gate_made v n o h e = (gate_says v (pos (suc n)) o (omega arith, h)).1 e

-- and a solution's result is the gate's value
pub gate_value : (v : ℕ → Bool) (n : ℕ) (o : Operation) → Nonzero (operands o) → Solves v (defining (pos (suc n)) o) → v (suc n) ≡ result_of v o
gate_value v n o h s = (gate_says v (pos (suc n)) o (omega arith, h)).0 s

-- the result of a gate stands for the bit that the gate has where the clauses before it are solved
pub gate_stands : (free : ℕ) (c : List (List ℤ)) (z : ℤ) (o : Operation) (world : List Bool) (bit : Bool) → Nonzero (z ∷ operands o)
    → ((choice : ℕ → Bool) → BeginsWith free world choice → Solves choice c → result_of choice o ≡ bit)
    → StandsUnder free (c ++ defining z o) world z bit
gate_stands free c z o world bit h is choice begins s =
    (gate_says choice z o h).0 (Solves-right choice c (defining z o) s) ∙ is choice begins (Solves-left choice c (defining z o) s)
