-- What literals say under a choice that solves the clauses behind them.
use Rattle.std.proofs.Common.{◌≡◌, ◌∙◌, inl, inr, ℕ, zero, suc, ◌+◌, ◌<◌, ◌≤◌, ℤ, pos, unsigned_abs, Bool, not, ◌&&◌, List, [], ◌∷◌, ◌++◌, length, map, get_or, sym, ap, subst, arith}
use Rattle.std.proofs.lemmas.List.Elements.{All-contains, Contains-append_cases}
use Rattle.rst_value.specs.Bits.{bit_xor, bit_mux}
use Rattle.rst_value.specs.Domains.{Content}
use Rattle.rst_clause.specs.Literals.{opposite, literal_holds, Solves, IsLiteral, AreLiterals}
use Rattle.rst_clause.specs.Operations.{Operation, operands, defining, IsDefined}
use Rattle.rst_clause.specs.Operations.Operation.{and_of, xor_of, mux_of}
use Rattle.rst_clause.specs.Results.{largest, next, clause_results}
use Rattle.rst_clause.proofs.Gates.{result_of, Nonzero, gate_value, holds-opposite, Solves-left, Solves-right}
use Rattle.rst_clause.proofs.Ranges.{largest_is, defined_push, lits2, lits3, IsLiteral-opposite, AreLiterals-more, All-from_members}
use Rattle.rst_pose.specs.Posed.{Lits}

-- the values of literals under a choice
abbrev pub values : (ℕ → Bool) → List ℤ → List Bool
values v zs = map (λ z. literal_holds v z) zs

-- the clauses are those of gates over so many free bits
abbrev pub Ready : ℕ → Content → Type 0
Ready free c = IsDefined free (largest c) c

abbrev pub In : Content → ℤ → Type 0
In c z = IsLiteral (largest c) z

abbrev pub AllIn : Content → List ℤ → Type 0
AllIn c zs = AreLiterals (largest c) zs

-- there are more clauses of gates, and what solves them solves the earlier ones
pub record Grown (free : ℕ) (old new : Content) : Type 0 where
  pub ready : Ready free new
  pub more : largest old ≤ largest new
  pub earlier : (v : ℕ → Bool) → Solves v new → Solves v old

pub grown_not : (free : ℕ) (c : Content) → Ready free c → Grown free c c
grown_not free c ready = record { ready = ready; more = omega arith; earlier = λ v s. s }

pub grown_twice : (free : ℕ) (a b c : Content) → Grown free a b → Grown free b c → Grown free a c
grown_twice free a b c g h = record { ready = h.ready; more = omega (arith, g.more, h.more); earlier = λ v s. g.earlier v (h.earlier v s) }

-- a literal, and the content behind it
abbrev pub One : Type 0
One = ℤ × Content

-- the literal stands for this under each choice that solves the clauses behind it
pub record Means (free : ℕ) (c : Content) (r : One) (f : (ℕ → Bool) → Bool) : Type 0 where
  pub grown : Grown free c r.1
  pub held : In r.1 r.0
  pub value : (v : ℕ → Bool) → Solves v r.1 → literal_holds v r.0 ≡ f v

pub record MeansAll (free : ℕ) (c : Content) (r : Lits) (f : (ℕ → Bool) → List Bool) : Type 0 where
  pub grown : Grown free c r.1
  pub held : AllIn r.1 r.0
  pub value : (v : ℕ → Bool) → Solves v r.1 → values v r.0 ≡ f v

pub means_as :
    (free : ℕ) (c : Content) (r : One) (f g : (ℕ → Bool) → Bool) → Means free c r f → ((v : ℕ → Bool) → Solves v r.1 → f v ≡ g v) → Means free c r g
means_as free c r f g m same = record { grown = m.grown; held = m.held; value = λ v s. m.value v s ∙ same v s }

pub in_more : (free : ℕ) (a b : Content) (z : ℤ) → Grown free a b → In a z → In b z
in_more free a b z g h = let high : unsigned_abs z ≤ largest a = h.1 in (h.0, omega (arith, high, g.more))

pub all_more : (free : ℕ) (a b : Content) (zs : List ℤ) → Grown free a b → AllIn a zs → AllIn b zs
all_more free a b zs g h = AreLiterals-more (largest a) (largest b) zs g.more h

nonzero : (n : ℕ) (ks : List ℤ) → AreLiterals n ks → Nonzero ks
nonzero n [] h = tt
nonzero n (k ∷ ks) h = ((h 0 k (omega arith)).0, nonzero n ks (λ i d lt. h (suc i) d (omega arith)))

-- a gate stands for its operation on what its operands stand for
gate_means :
    (free : ℕ) (c : Content) (o : Operation) → Ready free c → AreLiterals (largest c) (operands o)
    → Means free c (next c, c ++ defining (next c) o) (λ v. result_of v o)
gate_means free c o ready ok =
    let n = largest c in
    let one : n + 1 ≡ suc n = omega arith in
    let new = c ++ defining (next c) o in
    let pushed : IsDefined free (n + 1) new = defined_push free n c new o ready ok (ap (λ (k : ℕ). c ++ defining (pos k) o) one) in
    let top : largest new ≡ n + 1 = largest_is free (n + 1) new pushed in
    record {
      grown = record {
        ready = subst (λ (k : ℕ). IsDefined free k new) (sym top) pushed;
        more = omega (arith, top);
        earlier = λ v s. Solves-left v c (defining (next c) o) s;
      };
      held = (omega arith, omega (arith, top));
      value = λ v s.
          let there : Solves v (c ++ defining (pos (suc n)) o) = subst (λ (k : ℕ). Solves v (c ++ defining (pos k) o)) one s in
          ap (λ (k : ℕ). literal_holds v (pos k)) one
          ∙ gate_value v n o (nonzero n (operands o) ok) (Solves-right v c (defining (pos (suc n)) o) there);
    }

pub both_means :
    (free : ℕ) (c : Content) (a b : ℤ) → Ready free c → In c a → In c b
    → Means free c (clause_results.both c a b) (λ v. literal_holds v a && literal_holds v b)
both_means free c a b ready p q = gate_means free c (and_of a b) ready (lits2 (largest c) a b p q)

pub differ_means :
    (free : ℕ) (c : Content) (a b : ℤ) → Ready free c → In c a → In c b
    → Means free c (clause_results.differ c a b) (λ v. bit_xor (literal_holds v a) (literal_holds v b))
differ_means free c a b ready p q = gate_means free c (xor_of a b) ready (lits2 (largest c) a b p q)

pub choice_means :
    (free : ℕ) (c : Content) (s a b : ℤ) → Ready free c → In c s → In c a → In c b
    → Means free c (clause_results.choice c s a b) (λ v. bit_mux (literal_holds v s) (literal_holds v a) (literal_holds v b))
choice_means free c s a b ready o p q = gate_means free c (mux_of s a b) ready (lits3 (largest c) s a b o p q)

pub opposite_in : (c : Content) (z : ℤ) → In c z → In c (opposite z)
opposite_in c z h = IsLiteral-opposite (largest c) z h

pub opposite_value : (c : Content) (z : ℤ) (v : ℕ → Bool) → In c z → literal_holds v (opposite z) ≡ not (literal_holds v z)
opposite_value c z v h = holds-opposite v z h.0

-- lists of literals in range
pub all_cons : (n : ℕ) (z : ℤ) (zs : List ℤ) → IsLiteral n z → AreLiterals n zs → AreLiterals n (z ∷ zs)
all_cons n z zs p q = go
  where
    go : (i : ℕ) (d : ℤ) → i < length (z ∷ zs) → IsLiteral n (get_or (z ∷ zs) i d)
    go zero d lt = p
    go (suc i) d lt = q i d (omega arith)

pub all_head : (n : ℕ) (z : ℤ) (zs : List ℤ) → AreLiterals n (z ∷ zs) → IsLiteral n z
all_head n z zs h = h 0 z (omega arith)

pub all_tail : (n : ℕ) (z : ℤ) (zs : List ℤ) → AreLiterals n (z ∷ zs) → AreLiterals n zs
all_tail n z zs h = λ i d lt. h (suc i) d (omega arith)

pub all_append : (n : ℕ) (xs ys : List ℤ) → AreLiterals n xs → AreLiterals n ys → AreLiterals n (xs ++ ys)
all_append n xs ys p q = All-from_members (IsLiteral n) (xs ++ ys) (λ z h. elim (Contains-append_cases xs ys z h) [
  | inl i ↦ All-contains (IsLiteral n) xs z p i
  | inr i ↦ All-contains (IsLiteral n) ys z q i
])
