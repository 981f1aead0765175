-- Gate by gate, each choice of the free bits extends in exactly one way, and unit propagation finds it.
use Rattle.std.proofs.Common.{◌≡◌, ◌≢◌, ◌∙◌, ℕ, zero, suc, ◌+◌, ◌<◌, ◌≤◌, ◌⊎◌, inl, inr, ℤ, pos, negsuc, unsigned_abs, Bool, true, false, not, cond, ◌&&◌, List, [], ◌∷◌, ◌++◌, length, refl, sym, ap, subst, arith, append_assoc, append-nil, add-zero, eqb, eq-eqb}
use Rattle.std.specs.List.{Contains}
use Rattle.std.specs.Bool.{beq}
use Rattle.std.specs.Coded.{Coded-set, coded_bool, le_prop}
use Rattle.std.proofs.Math.Logic.{∥∥₁_elim}
use Rattle.std.proofs.Math.Nat.{eq-or-lt_of_le}
use Rattle.std.proofs.lemmas.Bool.{ne_eqb}
use Rattle.std.proofs.lemmas.List.Elements.{Contains-append_left, Contains-append_right, Contains-append_cases, Contains-push, All-contains}
use Rattle.rst_value.specs.Bits.{bit_xor, bit_mux}
use Rattle.rst_clause.specs.Literals.{opposite, literal_holds, Holds, Solves, IsLiteral, AreLiterals, AreClauses}
use Rattle.rst_clause.specs.Propagation.{Derived, units}
use Rattle.rst_clause.specs.Propagation.Derived.{unit}
use Rattle.rst_clause.specs.Operations.{Operation, operands, defining, all_defining, AreEarlier, denies_next, IsDefined}
use Rattle.rst_clause.specs.Operations.Operation.{and_of, xor_of, mux_of}
use Rattle.rst_clause.specs.Extension.{AgreeTo, literal_of, choice_literals, HasOneExtension}
use Rattle.rst_clause.proofs.Members.{Contains-first, Contains-one, Contains-map, opposite-opposite, one_of_both}
use Rattle.rst_clause.proofs.Gates.{all_hold, test-false, result_of, Nonzero, gate_test, gate_made, gate_value, Solves-left, Solves-right}
use Rattle.rst_clause.proofs.Ranges.{abs-opposite, AreClauses-more, Each, all_each, defining_in_range, AreClauses-append, denies_in_range}

-- each clause is among the others
abbrev pub AreAmong : List (List ℤ) → List (List ℤ) → Type 0
AreAmong xs ys = (c : List ℤ) → Contains xs c → Contains ys c

pub derived_more : (xs ys : List (List ℤ)) → AreAmong xs ys → (l : ℤ) → Derived xs l → Derived ys l
derived_more xs ys among l (unit c _ cin lin rest) = unit c l (among c cin) lin (λ k kin ne. derived_more xs ys among (opposite k) (rest k kin ne))

-- the first literal of a clause whose others are false
pub unit1 : (cs : List (List ℤ)) (l : ℤ) → Contains cs (l ∷ []) → Derived cs l
unit1 cs l h = unit (l ∷ []) l h (Contains-first l []) (λ k kin ne. absurd (ne (sym (Contains-one l k kin))))

pub all_nonzero : (n : ℕ) (ks : List ℤ) → AreLiterals n ks → Nonzero ks
all_nonzero n [] h = tt
all_nonzero n (k ∷ ks) h = ((h 0 k (omega arith)).0, all_nonzero n ks (λ i d lt. h (suc i) d (omega arith)))

-- one value changed
overridden : (ℕ → Bool) → ℕ → Bool → ℕ → Bool
overridden v n b i = cond (eqb i n) b (v i)

overridden-same : (v : ℕ → Bool) (n : ℕ) (b : Bool) → overridden v n b n ≡ b
unfolding overridden
overridden-same v n b = rw (eq-eqb n n refl) refl

overridden-other : (v : ℕ → Bool) (n : ℕ) (b : Bool) (i : ℕ) → i ≢ n → overridden v n b i ≡ v i
unfolding overridden
overridden-other v n b i ne = rw (ne_eqb i n ne) refl

-- equal values give literals and clauses the same
literal-agree : (n : ℕ) (v w : ℕ → Bool) → AgreeTo n v w → (k : ℤ) → IsLiteral n k → literal_holds v k ≡ literal_holds w k
literal-agree n v w h (pos zero) isl = refl
literal-agree n v w h (pos (suc m)) isl = h (suc m) (omega arith) (omega (arith, isl.1))
literal-agree n v w h (negsuc m) isl = ap not (h (suc m) (omega arith) (omega (arith, isl.1)))

solves-agree : (n : ℕ) (v w : ℕ → Bool) (cs : List (List ℤ)) → AgreeTo n v w → AreClauses n cs → Solves v cs → Solves w cs
solves-agree n v w cs h ok s c cin =
    let r : Holds v c = s c cin in
    let isl : IsLiteral n r.0 = All-contains (IsLiteral n) c r.0 (All-contains (AreLiterals n) cs c ok cin) r.1 in
    (r.0, r.1, sym (literal-agree n v w h r.0 isl) ∙ r.2)

result-agree : (n : ℕ) (v w : ℕ → Bool) (o : Operation) → AgreeTo n v w → AreLiterals n (operands o) → result_of v o ≡ result_of w o
result-agree n v w o h ok = same o (all_each (IsLiteral n) (operands o) ok)
  where
    agree : (k : ℤ) → IsLiteral n k → literal_holds v k ≡ literal_holds w k
    agree = literal-agree n v w h

    same : (o : Operation) → Each (IsLiteral n) (operands o) → result_of v o ≡ result_of w o
    same (and_of a b) (la, (lb, _)) = λ i. agree a la i && agree b lb i
    same (xor_of a b) (la, (lb, _)) = λ i. bit_xor (agree a la i) (agree b lb i)
    same (mux_of s t e) (ls, (lt, (le, _))) = λ i. bit_mux (agree s ls i) (agree t lt i) (agree e le i)

-- a literal that holds is that of its variable's value
held_is : (v : ℕ → Bool) (k : ℤ) (m : ℕ) → unsigned_abs k ≡ suc m → literal_holds v k ≡ true → k ≡ literal_of (v (suc m)) m
held_is v (pos zero) m e t = absurd (omega arith)
held_is v (pos (suc j)) m e t =
    let f : j ≡ m = omega arith in
    subst (λ i. pos (suc j) ≡ literal_of (v (suc i)) i) f (ap (λ b. literal_of b j) (sym t))
held_is v (negsuc j) m e t =
    let f : j ≡ m = omega arith in
    subst (λ i. negsuc j ≡ literal_of (v (suc i)) i) f (denied (v (suc j)) t)
  where
    denied : (b : Bool) → not b ≡ true → negsuc j ≡ literal_of b j
    denied true t = absurd (let f : false ≡ true = t in cc)
    denied false t = refl

-- Unit propagation finds the result of any gate: under the other value some clause of the gate is false, and of
-- its literals only the result's holds.
module _ (cs : List (List ℤ)) (v : ℕ → Bool) (n : ℕ) (o : Operation) (ok : AreLiterals n (operands o)) (before : (m : ℕ) → m < n → Derived cs (literal_of (v (suc m)) m)) where
  -- the literal of the result's value
  abbrev found : ℤ
  found = literal_of (v (suc n)) n

  -- the choice with the other value
  abbrev other : ℕ → Bool
  other = overridden v (suc n) (not (v (suc n)))

  other_is : other (suc n) ≡ not (v (suc n))
  other_is = overridden-same v (suc n) (not (v (suc n)))

  other-agree : AgreeTo n other v
  other-agree i low high = overridden-other v (suc n) (not (v (suc n))) i (λ e. absurd (omega arith))

  -- a literal that is false under the other value is the result's, or it is false and its opposite is found
  result_or_false : (k : ℤ) → IsLiteral (suc n) k → literal_holds other k ≡ false → (k ≡ found) ⊎ ((literal_holds v k ≡ false) × Derived cs (opposite k))
  result_or_false k isl f = elim (eq-or-lt_of_le isl.1) [
    | inl e ↦ inl (sym (opposite-opposite k) ∙ ap opposite (opposite_is n e ∙ ap (λ b. literal_of b n) other_is) ∙ back (v (suc n)))
    | inr lt ↦
        let low : unsigned_abs k ≤ n = omega arith in
        inr (sym (literal-agree n other v other-agree k (isl.0, low)) ∙ f, at (unsigned_abs k) refl low)
  ]
    where
      opposite_is : (m : ℕ) → unsigned_abs k ≡ suc m → opposite k ≡ literal_of (other (suc m)) m
      opposite_is m e = held_is other (opposite k) m (abs-opposite k ∙ e) (one_of_both other k isl.0 f)

      back : (b : Bool) → opposite (literal_of (not b) n) ≡ literal_of b n
      back true = refl
      back false = refl

      at : (j : ℕ) → unsigned_abs k ≡ j → unsigned_abs k ≤ n → Derived cs (opposite k)
      at zero e low = absurd (omega (arith, isl.0))
      at (suc m) e low = subst (λ z. Derived cs z) (sym (opposite_is m e ∙ ap (λ b. literal_of b m) (other-agree (suc m) (omega arith) (omega arith)))) (before m (omega arith))

  gate_found : AreAmong (defining (pos (suc n)) o) cs → Solves v (defining (pos (suc n)) o) → Derived cs found
  gate_found among s =
      let gate = defining (pos (suc n)) o in
      let nonzero : Nonzero (operands o) = all_nonzero n (operands o) ok in
      let value : result_of other o ≡ v (suc n) = result-agree n other v o other-agree ok ∙ sym (gate_value v n o nonzero s) in
      let fails : all_hold other gate ≡ false = gate_test other (pos (suc n)) o (omega arith, nonzero) ∙ (λ i. beq (other_is i) (value i)) ∙ differs (v (suc n)) in
      let r : (c : List ℤ) × Contains gate c × ((k : ℤ) → Contains c k → literal_holds other k ≡ false) = test-false other gate fails in
      let in_range : AreLiterals (suc n) r.0 = All-contains (AreLiterals (suc n)) gate r.0 (defining_in_range n o ok) r.1 in
      let either : (k : ℤ) → Contains r.0 k → (k ≡ found) ⊎ ((literal_holds v k ≡ false) × Derived cs (opposite k)) = λ k kin.
      result_or_false k (All-contains (IsLiteral (suc n)) r.0 k in_range kin) (r.2 k kin) in
      let h : Holds v r.0 = s r.0 r.1 in
      let there : Contains r.0 found = elim (either h.0 h.1) [
        | inl e ↦ subst (λ z. Contains r.0 z) e h.1
        | inr d ↦ absurd (let both : true ≡ false = sym h.2 ∙ d.0 in cc)
      ] in
      unit r.0 found (among r.0 r.1) there (λ k kin ne. elim (either k kin) [ inl e ↦ absurd (ne e) | inr d ↦ d.1 ])
    where
      differs : (b : Bool) → beq (not b) b ≡ false
      differs true = refl
      differs false = refl

choice-has : (v : ℕ → Bool) (n k : ℕ) → k < n → Contains (choice_literals v n) (literal_of (v (suc k)) k)
choice-has v zero k lt = absurd (omega arith)
choice-has v (suc n) k lt =
    let le : k ≤ n = omega arith in
    elim (eq-or-lt_of_le le) [
      | inl e ↦ subst (λ z. Contains (choice_literals v (suc n)) (literal_of (v (suc z)) z)) (sym e) (Contains-push (choice_literals v n) (literal_of (v (suc n)) n))
      | inr b ↦ Contains-append_left (choice_literals v n) (literal_of (v (suc n)) n ∷ []) (literal_of (v (suc k)) k) (choice-has v n k b)
    ]

-- clauses over the variables 1 to n that extend each choice in one way
pub record Extends (free n : ℕ) (cs : List (List ℤ)) : Type 0 where
  pub below : free ≤ n
  pub in_range : AreClauses n cs
  pub one : HasOneExtension free n cs

extends_step : (free n : ℕ) (cs : List (List ℤ)) (o : Operation) → AreLiterals n (operands o) → Extends free n cs
    → Extends free (suc n) (cs ++ defining (pos (suc n)) o)
extends_step free n cs o earlier x =
    let nonzero : Nonzero (operands o) = all_nonzero n (operands o) earlier in
    let gate = defining (pos (suc n)) o in
    let below : free ≤ n = x.below in
    record {
      below = omega arith;
      in_range = AreClauses-append (suc n) cs gate (AreClauses-more n (suc n) cs (omega arith) x.in_range) (defining_in_range n o earlier);
      one = record {
        exists = λ choice.
            let r : (v : ℕ → Bool) × AgreeTo free choice v × Solves v cs = x.one.exists choice in
            let v : ℕ → Bool = overridden r.0 (suc n) (result_of r.0 o) in
            let same : AgreeTo n r.0 v = λ i low high. sym (overridden-other r.0 (suc n) (result_of r.0 o) i (λ e. absurd (omega arith))) in (
              v,
              λ i low high. r.1 i low high ∙ same i low (omega arith),
              solves_both v cs gate (solves-agree n r.0 v cs same x.in_range r.2)
                  (gate_made v n o nonzero (overridden-same r.0 (suc n) (result_of r.0 o) ∙ result-agree n r.0 v o same earlier)),
            );
        only = λ v w sv sw h.
            let before : AgreeTo n v w = x.one.only v w (Solves-left v cs gate sv) (Solves-left w cs gate sw) h in
            λ i low high. up_to v w before (gate_value v n o nonzero (Solves-right v cs gate sv) ∙ result-agree n v w o before earlier
            ∙ sym (gate_value w n o nonzero (Solves-right w cs gate sw))) i low high;
        found = λ v s.
            let all = units (choice_literals v free) ++ (cs ++ gate) in
            let before : (m : ℕ) → m < n → Derived all (literal_of (v (suc m)) m) = λ m lt.
            derived_more (units (choice_literals v free) ++ cs) all (among_more (units (choice_literals v free)) cs gate) (literal_of (v (suc m)) m)
            (x.one.found v (Solves-left v cs gate s) m lt) in
            λ m lt. found_to v all before
            (gate_found all v n o earlier before (λ c h. Contains-append_right (units (choice_literals v free)) (cs ++ gate) c (Contains-append_right cs gate c h))
            (Solves-right v cs gate s)) m lt;
      };
    }
  where
    solves_both : (v : ℕ → Bool) (xs ys : List (List ℤ)) → Solves v xs → Solves v ys → Solves v (xs ++ ys)
    solves_both v xs ys p q c h = elim (Contains-append_cases xs ys c h) [ inl i ↦ p c i | inr i ↦ q c i ]

    up_to : (v w : ℕ → Bool) → AgreeTo n v w → v (suc n) ≡ w (suc n) → AgreeTo (suc n) v w
    up_to v w h e i low high = elim (eq-or-lt_of_le high) [
      | inl f ↦ subst (λ z. v z ≡ w z) (sym f) e
      | inr b ↦ h i low (omega arith)
    ]

    found_to : (v : ℕ → Bool) (all : List (List ℤ)) → ((m : ℕ) → m < n → Derived all (literal_of (v (suc m)) m)) → Derived all (literal_of (v (suc n)) n)
        → (m : ℕ) → m < suc n → Derived all (literal_of (v (suc m)) m)
    found_to v all d here m lt =
        let le : m ≤ n = omega arith in
        elim (eq-or-lt_of_le le) [
          | inl e ↦ subst (λ z. Derived all (literal_of (v (suc z)) z)) (sym e) here
          | inr b ↦ d m b
        ]

    among_more : (us cs gate : List (List ℤ)) → AreAmong (us ++ cs) (us ++ (cs ++ gate))
    among_more us cs gate c h = elim (Contains-append_cases us cs c h) [
      | inl i ↦ Contains-append_left us (cs ++ gate) c i
      | inr i ↦ Contains-append_right us (cs ++ gate) c (Contains-append_left cs gate c i)
    ]

-- the false variable
extends_start : (free : ℕ) → Extends free (suc free) (denies_next free ∷ [])
extends_start free = record {
  below = omega arith;
  in_range = denies_in_range free;
  one = record {
    exists = λ choice. (
      overridden choice (suc free) false,
      λ i low high. sym (overridden-other choice (suc free) false i (λ e. absurd (omega arith))),
      λ c h. subst (λ z. Holds (overridden choice (suc free) false) z) (Contains-one (denies_next free) c h)
          (negsuc free, Contains-first (negsuc free) [], ap not (overridden-same choice (suc free) false)),
    );
    only = λ v w sv sw h i low high. elim (eq-or-lt_of_le high) [
      | inl e ↦ subst (λ z. v z ≡ w z) (sym e) (is_false v sv ∙ sym (is_false w sw))
      | inr b ↦ h i low (omega arith)
    ];
    found = λ v s m lt. found_at v s m (omega arith);
  };
}
  where
    is_false : (v : ℕ → Bool) → Solves v (denies_next free ∷ []) → v (suc free) ≡ false
    is_false v s =
        let r : Holds v (denies_next free) = s (denies_next free) (Contains-first (denies_next free) []) in
        let t : not (v (suc free)) ≡ true = subst (λ z. literal_holds v z ≡ true) (sym (Contains-one (negsuc free) r.0 r.1)) r.2 in
        flipped (v (suc free)) t
      where
        flipped : (b : Bool) → not b ≡ true → b ≡ false
        flipped true e = sym e
        flipped false e = refl

    found_at : (v : ℕ → Bool) → Solves v (denies_next free ∷ []) → (m : ℕ) → m ≤ free
        → Derived (units (choice_literals v free) ++ denies_next free ∷ []) (literal_of (v (suc m)) m)
    found_at v s m le = elim (eq-or-lt_of_le le) [
      | inl e ↦ subst (λ z. Derived (units (choice_literals v free) ++ denies_next free ∷ []) (literal_of (v (suc z)) z)) (sym e)
          (subst (λ b. Derived (units (choice_literals v free) ++ denies_next free ∷ []) (literal_of b free)) (sym (is_false v s))
          (unit1 (units (choice_literals v free) ++ denies_next free ∷ []) (negsuc free) (Contains-append_right (units (choice_literals v free)) (denies_next free ∷ []) (denies_next free) (Contains-first (denies_next free) []))))
      | inr b ↦ unit1 (units (choice_literals v free) ++ denies_next free ∷ []) (literal_of (v (suc m)) m)
          (Contains-append_left (units (choice_literals v free)) (denies_next free ∷ []) (literal_of (v (suc m)) m ∷ [])
          (Contains-map (λ l. l ∷ []) (choice_literals v free) (literal_of (v (suc m)) m) (choice-has v free m b)))
    ]

extends_all : (free n : ℕ) (cs : List (List ℤ)) (os : List Operation) → AreEarlier n os → Extends free n cs → Extends free (n + length os) (cs ++ all_defining n os)
extends_all free n cs [] earlier x = subst (λ k. Extends free k (cs ++ [])) (sym (add-zero n)) (subst (λ z. Extends free n z) (sym (append-nil cs)) x)
extends_all free n cs (o ∷ os) earlier x =
    let rest : Extends free (suc n + length os) ((cs ++ defining (pos (suc n)) o) ++ all_defining (suc n) os) =
    extends_all free (suc n) (cs ++ defining (pos (suc n)) o) os earlier.1 (extends_step free n cs o earlier.0 x) in
    let count : suc n + length os ≡ n + length (o ∷ os) = omega arith in
    subst (λ k. Extends free k (cs ++ all_defining n (o ∷ os))) count
    (subst (λ z. Extends free (suc n + length os) z) (append_assoc cs (defining (pos (suc n)) o) (all_defining (suc n) os)) rest)

pub defined_extended : (free vars : ℕ) (fixed : List (List ℤ)) → IsDefined free vars fixed → Extends free vars fixed
defined_extended free vars fixed d =
    subst (λ k. Extends free k fixed) (sym d.count)
    (subst (λ z. Extends free (suc free + length d.gates) z) (sym d.shape) (extends_all free (suc free) (denies_next free ∷ []) d.gates d.earlier (extends_start free)))

pub defined_extends : (free vars : ℕ) (fixed : List (List ℤ)) → IsDefined free vars fixed → HasOneExtension free vars fixed
defined_extends free vars fixed d = (defined_extended free vars fixed d).one

-- solutions give the false variable the value false
pub false_value : (free vars : ℕ) (fixed : List (List ℤ)) → ∥ IsDefined free vars fixed ∥₁ → (v : ℕ → Bool) → Solves v fixed → v (suc free) ≡ false
false_value free vars fixed h v s = ∥∥₁_elim h (Coded-set coded_bool _ _) (λ d.
    let r : Holds v (denies_next free) = s (denies_next free) (subst (λ z. Contains z (denies_next free)) (sym d.shape) (Contains-first (denies_next free) (all_defining (suc free) d.gates))) in
    let t : not (v (suc free)) ≡ true = subst (λ z. literal_holds v z ≡ true) (sym (Contains-one (negsuc free) r.0 r.1)) r.2 in
    flipped (v (suc free)) t)
  where
    flipped : (b : Bool) → not b ≡ true → b ≡ false
    flipped true e = sym e
    flipped false e = refl

-- a constant's literal has the constant's value, and is in range
pub constant_value : (v : ℕ → Bool) (free : ℕ) (bit : Bool) → v (suc free) ≡ false → literal_holds v (cond bit (negsuc free) (pos (suc free))) ≡ bit
constant_value v free true e = ap not e
constant_value v free false e = e

pub constant_in_range : (free vars : ℕ) (bit : Bool) → free < vars → IsLiteral vars (cond bit (negsuc free) (pos (suc free)))
constant_in_range free vars true lt = (omega arith, omega arith)
constant_in_range free vars false lt = (omega arith, omega arith)

pub both_equal : (a a' : ℤ) (b b' : List (List ℤ)) → a ≡ a' → b ≡ b' → ◌≡◌ {A = ℤ × List (List ℤ)} (a, b) (a', b')
both_equal a a' b b' e f = cc

-- the clauses that define variables are in range
pub fixed_in_range : (free vars : ℕ) (fixed : List (List ℤ)) → ∥ IsDefined free vars fixed ∥₁ → AreClauses vars fixed
fixed_in_range free vars fixed h i d lt j e low = (
  ∥∥₁_elim h le_prop (λ x. ((defined_extended free vars fixed x).in_range i d lt j e low).0),
  ∥∥₁_elim h le_prop (λ x. ((defined_extended free vars fixed x).in_range i d lt j e low).1),
)
