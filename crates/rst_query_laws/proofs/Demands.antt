-- When a choice solves the required clauses.
use Rattle.std.proofs.Common.{◌≡◌, ◌∙◌, ℕ, zero, suc, inl, inr, ◌<◌, ℤ, Bool, true, false, not, ◌||◌, get_or, List, [], ◌∷◌, ◌++◌, refl, sym, ap, arith}
use Rattle.std.proofs.lemmas.Bool.{false≢true}
use Rattle.std.proofs.lemmas.List.Elements.{Contains-append_cases}
use Rattle.rst_clause.specs.Literals.{opposite, literal_holds, Solves, AreLiterals, AreClauses}
use Rattle.rst_clause.proofs.Gates.{some_holds, AllHold, solves_all, all_solve, holds-opposite}
use Rattle.rst_clause.proofs.Ranges.{AreClauses-append, IsLiteral-opposite}
use Rattle.rst_pose.specs.Posed.{each_false}
use Rattle.rst_query_laws.proofs.Meaning.{values, all_head, all_tail, all_cons}
use Rattle.rst_query_laws.proofs.Cubes.{some_true}

pub solves_both : (v : ℕ → Bool) (xs ys : List (List ℤ)) → Solves v xs → Solves v ys → Solves v (xs ++ ys)
solves_both v xs ys p q c h = elim (Contains-append_cases xs ys c h) [ inl i ↦ p c i | inr i ↦ q c i ]

some_holds-is : (v : ℕ → Bool) (zs : List ℤ) → some_holds v zs ≡ some_true (values v zs)
some_holds-is v [] = refl
some_holds-is v (z ∷ zs) = ap (λ (b : Bool). literal_holds v z || b) (some_holds-is v zs)

-- one clause
pub clause-is : (v : ℕ → Bool) (clause : List ℤ) → Solves v (clause ∷ []) → some_true (values v clause) ≡ true
clause-is v clause s = sym (some_holds-is v clause) ∙ (solves_all v (clause ∷ []) s).0

pub clause-of : (v : ℕ → Bool) (clause : List ℤ) → some_true (values v clause) ≡ true → Solves v (clause ∷ [])
clause-of v clause e = all_solve v (clause ∷ []) (some_holds-is v clause ∙ e, tt)

-- each of the literals is false
not_some : (b : Bool) → (not b || false) ≡ true → b ≡ false
not_some true e = sym e
not_some false e = refl

some_not : (b : Bool) → b ≡ false → (not b || false) ≡ true
some_not true e = sym e
some_not false e = refl

or_none : (a b : Bool) → a ≡ false → b ≡ false → (a || b) ≡ false
or_none true b p q = p
or_none false b p q = q

or_first : (a b : Bool) → (a || b) ≡ false → a ≡ false
or_first true b h = h
or_first false b h = refl

or_second : (a b : Bool) → (a || b) ≡ false → b ≡ false
or_second true b h = absurd (false≢true (sym h))
or_second false b h = h

pub false-is : (v : ℕ → Bool) (n : ℕ) (zs : List ℤ) → AreLiterals n zs → AllHold v (each_false zs) → some_true (values v zs) ≡ false
false-is v n [] held a = refl
false-is v n (z ∷ zs) held a =
    let first : (not (literal_holds v z) || false) ≡ true = ap (λ (b : Bool). b || false) (sym (holds-opposite v z (all_head n z zs held).0)) ∙ a.0 in
    or_none (literal_holds v z) (some_true (values v zs)) (not_some (literal_holds v z) first) (false-is v n zs (all_tail n z zs held) a.1)

pub false-of : (v : ℕ → Bool) (n : ℕ) (zs : List ℤ) → AreLiterals n zs → some_true (values v zs) ≡ false → AllHold v (each_false zs)
false-of v n [] held e = tt
false-of v n (z ∷ zs) held e = (
  ap (λ (b : Bool). b || false) (holds-opposite v z (all_head n z zs held).0)
      ∙ some_not (literal_holds v z) (or_first (literal_holds v z) (some_true (values v zs)) e),
  false-of v n zs (all_tail n z zs held) (or_second (literal_holds v z) (some_true (values v zs)) e),
)

pub some_append : (xs ys : List Bool) → some_true (xs ++ ys) ≡ (some_true xs || some_true ys)
some_append [] ys = refl
some_append (x ∷ xs) ys = ap (λ (b : Bool). x || b) (some_append xs ys) ∙ or_assoc x (some_true xs) (some_true ys)
  where
    or_assoc : (a b c : Bool) → (a || (b || c)) ≡ ((a || b) || c)
    or_assoc true b c = refl
    or_assoc false b c = refl

-- required clauses in range
pub one_in : (n : ℕ) (clause : List ℤ) → AreLiterals n clause → AreClauses n (clause ∷ [])
one_in n clause held = go
  where
    go : (i : ℕ) (d : List ℤ) → i < 1 → AreLiterals n (get_or (clause ∷ []) i d)
    go zero d lt = held
    go (suc i) d lt = absurd (omega (arith, lt))

pub false_in : (n : ℕ) (zs : List ℤ) → AreLiterals n zs → AreClauses n (each_false zs)
false_in n [] held = λ i d lt. absurd (omega arith)
false_in n (z ∷ zs) held =
    AreClauses-append n ((opposite z ∷ []) ∷ []) (each_false zs)
    (one_in n (opposite z ∷ []) (all_cons n (opposite z) [] (IsLiteral-opposite n z (all_head n z zs held)) (λ i d lt. absurd (omega arith))))
    (false_in n zs (all_tail n z zs held))
