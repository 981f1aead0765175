-- A complete trail that knows the free bits gives a solution.
use Rattle.std.proofs.Common.{◌≡◌, ◌≢◌, ℕ, zero, suc, ◌+◌, ◌<◌, ◌≤◌, ◌⊎◌, inl, inr, ℤ, pos, negsuc, Bool, true, false, not, List, [], ◌∷◌, ◌++◌, length, get_or, refl, sym, ◌∙◌, subst, ap, arith, ◌↔◌, length-append}
use Rattle.std.specs.List.{Contains}
use Rattle.std.proofs.Math.ListN.{get_or-append}
use Rattle.std.proofs.Math.Nat.{eq-or-lt_of_le}
use Rattle.std.proofs.Math.Seq.{get_or-append_seam}
use Rattle.std.proofs.Math.Logic.{∥∥₁_elim, ∥∥₁_prop}
use Rattle.std.proofs.lemmas.List.Elements.{Contains-push_cases, Contains-append_left, Contains-append_cases, All-contains}
use Rattle.rst_clause.specs.Literals.{opposite, literal_holds, Solves, IsLiteral, AreLiterals, AreClauses}
use Rattle.rst_clause.specs.Propagation.{units}
use Rattle.rst_clause.specs.Operations.{IsDefined}
use Rattle.rst_clause.specs.Extension.{AgreeTo, literal_of, choice_literals, HasOneExtension}
use Rattle.rst_clause.specs.Trails.{IsComplete, IsQuiet, IsConsistent}
use Rattle.rst_clause.proofs.Members.{Contains-nil, Contains-first, Contains-later, Contains-one, Contains-cons_cases, Contains-from_map, Holds-or, same_or_not}
use Rattle.rst_clause.proofs.Extending.{defined_extends}
use Rattle.rst_clause.proofs.Grown.{derived_stands}
use Rattle.rst_clause.specs.Solutions.{IsSolution}
use Rattle.rst_solve.specs.Choices.{Knows, AllKnownTo, IsModel}
use Rattle.rst_solve.specs.Tree.{ArePosed}

contains_or_not : (t : List ℤ) (k : ℤ) → Contains t k ⊎ (Contains t k → ⊥)
contains_or_not [] k = inr (λ h. Contains-nil k h)
contains_or_not (x ∷ t) k = either (same_or_not x k) (contains_or_not t k)
  where
    either : (x ≡ k) ⊎ (x ≢ k) → Contains t k ⊎ (Contains t k → ⊥) → Contains (x ∷ t) k ⊎ (Contains (x ∷ t) k → ⊥)
    either (inl e) r = inl (subst (λ z. Contains (x ∷ t) z) e (Contains-first x t))
    either (inr ne) (inl i) = inl (Contains-later x t k i)
    either (inr ne) (inr away) = inr (λ h. elim (Contains-cons_cases x t k h) [ inl e ↦ ne e | inr i ↦ away i ])

chosen : {P : Type 0} → P ⊎ (P → ⊥) → Bool
chosen (inl p) = true
chosen (inr n) = false

chosen-yes : {P : Type 0} (d : P ⊎ (P → ⊥)) → P → chosen d ≡ true
unfolding chosen
chosen-yes (inl q) p = refl
chosen-yes (inr n) p = absurd (n p)

chosen-no : {P : Type 0} (d : P ⊎ (P → ⊥)) → (P → ⊥) → chosen d ≡ false
unfolding chosen
chosen-no (inl q) n = absurd (n q)
chosen-no (inr m) n = refl

-- the values that a trail gives the variables
value_in : List ℤ → ℕ → Bool
value_in t n = chosen (contains_or_not t (pos n))

value-one : (t : List ℤ) (n : ℕ) → Contains t (pos n) → value_in t n ≡ true
unfolding value_in
value-one t n h = chosen-yes (contains_or_not t (pos n)) h

value-zero : (t : List ℤ) (m : ℕ) → IsConsistent t → Contains t (negsuc m) → value_in t (suc m) ≡ false
unfolding value_in
value-zero t m con h = chosen-no (contains_or_not t (pos (suc m))) (λ p. con (pos (suc m)) p h)

-- the literal that has the trail's value stands, and the other way round
known_stands : (t : List ℤ) (i : ℕ) → IsConsistent t → Knows t i → Contains t (literal_of (value_in t (suc i)) i)
known_stands t i con (inl p) = subst (λ b. Contains t (literal_of b i)) (sym (value-one t (suc i) p)) p
known_stands t i con (inr n) = subst (λ b. Contains t (literal_of b i)) (sym (value-zero t i con n)) n

stands_value : (t : List ℤ) (i : ℕ) (b : Bool) → IsConsistent t → Contains t (literal_of b i) → value_in t (suc i) ≡ b
stands_value t i true con h = value-one t (suc i) h
stands_value t i false con h = value-zero t i con h

choice_from : (v : ℕ → Bool) (n : ℕ) (k : ℤ) → Contains (choice_literals v n) k → (i : ℕ) × (i < n) × (k ≡ literal_of (v (suc i)) i)
choice_from v zero k h = absurd (Contains-nil k h)
choice_from v (suc n) k h = elim (Contains-push_cases (choice_literals v n) (literal_of (v (suc n)) n) k h) [
  | inl j ↦
      let r : (i : ℕ) × (i < n) × (k ≡ literal_of (v (suc i)) i) = choice_from v n k j in
      let lt : r.0 < n = r.1 in
      (r.0, omega arith, r.2)
  | inr e ↦ (n, omega arith, sym e)
]

module _ (free vars : ℕ) (fixed cs : List (List ℤ)) (t : List ℤ) (con : IsConsistent t) (q : IsComplete t cs)
    (among : (c : List ℤ) → Contains fixed c → Contains cs c) (ok : AreClauses vars cs) (known : AllKnownTo t free) where
  -- all variables have on the trail the value of the extension
  values_agree : IsDefined free vars fixed → (n : ℕ) → n < vars → Contains t (literal_of (value_in t (suc n)) n)
  values_agree d n lt =
      let one : HasOneExtension free vars fixed = defined_extends free vars fixed d in
      let r : (w : ℕ → Bool) × AgreeTo free (value_in t) w × Solves w fixed = one.exists (value_in t) in
      let all_quiet : IsComplete t (units (choice_literals r.0 free) ++ fixed) = λ c h. elim (Contains-append_cases (units (choice_literals r.0 free)) fixed c h) [
        | inr i ↦ q c (among c i)
        | inl i ↦ unit_quiet r.0 r.1 c i
      ] in
      let here : Contains t (literal_of (r.0 (suc n)) n) = derived_stands (units (choice_literals r.0 free) ++ fixed) t all_quiet (literal_of (r.0 (suc n)) n) (one.found r.0 r.2 n lt) in
      subst (λ b. Contains t (literal_of b n)) (sym (stands_value t n (r.0 (suc n)) con here)) here
    where
      unit_quiet : (w : ℕ → Bool) → AgreeTo free (value_in t) w → (c : List ℤ) → Contains (units (choice_literals w free)) c → IsQuiet t c
      unit_quiet w agree c i =
          let u : (k : ℤ) × Contains (choice_literals w free) k × (c ≡ k ∷ []) = Contains-from_map (λ l. l ∷ []) (choice_literals w free) c i in
          let x : (j : ℕ) × (j < free) × (u.0 ≡ literal_of (w (suc j)) j) = choice_from w free u.0 u.1 in
          let lt : x.0 < free = x.1 in
          let same : value_in t (suc x.0) ≡ w (suc x.0) = agree (suc x.0) (omega arith) (omega arith) in
          let stands : Contains t u.0 = subst (λ z. Contains t z) (sym x.2) (subst (λ b. Contains t (literal_of b x.0)) same (known_stands t x.0 con (known x.0 x.1))) in
          subst (λ z. IsQuiet t z) (sym u.2) (record {
            not_false = λ f. con u.0 stands (f u.0 (Contains-first u.0 []));
            implied = λ l lin b. subst (λ z. Contains t z) (Contains-one u.0 l lin) stands;
          })

  -- a literal that is false under the values has its opposite on the trail
  false_opposite : IsDefined free vars fixed → (k : ℤ) → IsLiteral vars k → literal_holds (value_in t) k ≡ false → Contains t (opposite k)
  false_opposite d (pos zero) isl e = absurd (omega (arith, isl.0))
  false_opposite d (pos (suc m)) isl e = subst (λ b. Contains t (literal_of b m)) e (values_agree d m (omega (arith, isl.1)))
  false_opposite d (negsuc m) isl e = subst (λ b. Contains t (literal_of b m)) (flipped (value_in t (suc m)) e) (values_agree d m (omega (arith, isl.1)))
    where
      flipped : (b : Bool) → not b ≡ false → b ≡ true
      flipped true f = refl
      flipped false f = sym f

  trail_solves : ∥ IsDefined free vars fixed ∥₁ → Solves (value_in t) cs
  trail_solves defined c cin = elim (Holds-or (value_in t) c) [
    | inl h ↦ h
    | inr none ↦ absurd (∥∥₁_elim defined (λ x. absurd x) (λ d. (q c cin).not_false (λ k kin.
        false_opposite d k (All-contains (IsLiteral vars) c k (All-contains (AreLiterals vars) cs c ok cin) kin) (none k kin))))
  ]

  pub trail_solution : ∥ IsDefined free vars fixed ∥₁ → (bits : List Bool) → IsModel t free bits → IsSolution free cs bits
  trail_solution defined bits m = (
    m.width,
    ∣ (
      value_in t,
      λ i lt. begins i (known i lt) (get_or bits i false) refl (m.right i lt),
      trail_solves defined,
    ) ∣₁,
  )
    where
      begins : (i : ℕ) → Knows t i → (b : Bool) → get_or bits i false ≡ b → (get_or bits i false ≡ true) ↔ Contains t (pos (suc i)) → value_in t (suc i) ≡ get_or bits i false
      begins i (inl p) b e r = value-one t (suc i) p ∙ sym (r.1 p)
      begins i (inr n) true e r = absurd (con (pos (suc i)) (r.0 e) n)
      begins i (inr n) false e r = value-zero t i con n ∙ sym e

-- a complete trail that knows the free bits of a query gives a solution
pub posed_solution : (free vars : ℕ) (cs : List (List ℤ)) (t : List ℤ) → IsConsistent t → IsComplete t cs → AreClauses vars cs → AllKnownTo t free
    → ∥ ArePosed free vars cs ∥₁ → (bits : List Bool) → IsModel t free bits → IsSolution free cs bits
posed_solution free vars cs t con q ok known posed bits m = (
  m.width,
  ∥∥₁_elim posed ∥∥₁_prop (λ p.
      (trail_solution free vars p.fixed cs t con q (λ c h. subst (λ z. Contains z c) (sym p.parts) (Contains-append_left p.fixed p.required c h)) ok known p.defined bits m).1),
)

-- one more value
pub model_push : (t : List ℤ) (n : ℕ) (bits : List Bool) (b : Bool) → IsModel t n bits → (b ≡ true) ↔ Contains t (pos (suc n)) → IsModel t (n + 1) (bits ++ b ∷ [])
model_push t n bits b m is =
    let len : length (bits ++ b ∷ []) ≡ length bits + 1 = length-append bits (b ∷ []) in
    let width : length bits ≡ n = m.width in
    record {
      width = omega arith;
      right = λ i lt.
          let le : i ≤ n = omega arith in
          elim (eq-or-lt_of_le le) [
            | inl e ↦ subst (λ k. (get_or (bits ++ b ∷ []) k false ≡ true) ↔ Contains t (pos (suc k))) (sym e)
                (subst (λ z. (z ≡ true) ↔ Contains t (pos (suc n))) (sym (ap (λ k. get_or (bits ++ b ∷ []) k false) (sym width) ∙ get_or-append_seam bits b [] false)) is)
            | inr low ↦ subst (λ z. (z ≡ true) ↔ Contains t (pos (suc i))) (sym (get_or-append bits (b ∷ []) false i (subst (λ k. i < k) (sym width) low))) (m.right i low)
          ];
    }
