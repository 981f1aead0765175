-- Which variables clauses have, and the largest of them.
use Rattle.std.proofs.Common.{◌≡◌, ◌∙◌, ℕ, zero, suc, ◌+◌, ◌<◌, ◌≤◌, inl, inr, max, ℤ, pos, negsuc, unsigned_abs, List, [], ◌∷◌, ◌++◌, length, get_or, refl, sym, ap, subst, arith, append_assoc, append-nil, add-zero, length-append}
use Rattle.std.specs.List.{Contains, All}
use Rattle.std.specs.Coded.{Coded-set, coded_ℕ}
use Rattle.std.proofs.Math.Logic.{∥∥₁_elim}
use Rattle.std.proofs.lemmas.List.Elements.{Contains-get_or, Contains-append_cases, All-contains}
use Rattle.rst_clause.specs.Literals.{opposite, IsLiteral, AreLiterals, AreClauses}
use Rattle.rst_clause.specs.Operations.{Operation, operands, defining, all_defining, AreEarlier, denies_next, IsDefined}
use Rattle.rst_clause.specs.Operations.Operation.{and_of, xor_of, mux_of}
use Rattle.rst_clause.specs.Results.{largest_in, largest, false_variable}
use Rattle.rst_clause.proofs.Members.{Contains-nil, Contains-cons_cases}

pub All-from_members : {X : Type 0} (P : X → Type 0) (xs : List X) → ((x : X) → Contains xs x → P x) → All P xs
All-from_members P xs h i d lt = h (get_or xs i d) (Contains-get_or xs i d lt)

pub abs-opposite : (k : ℤ) → unsigned_abs (opposite k) ≡ unsigned_abs k
abs-opposite (pos zero) = refl
abs-opposite (pos (suc n)) = refl
abs-opposite (negsuc n) = refl

pub IsLiteral-opposite : (n : ℕ) (k : ℤ) → IsLiteral n k → IsLiteral n (opposite k)
IsLiteral-opposite n k isl = (subst (λ m. 1 ≤ m) (sym (abs-opposite k)) isl.0, subst (λ m. m ≤ n) (sym (abs-opposite k)) isl.1)

pub AreLiterals-more : (m n : ℕ) (c : List ℤ) → m ≤ n → AreLiterals m c → AreLiterals n c
AreLiterals-more m n c le ok i d lt =
    let isl : IsLiteral m (get_or c i d) = ok i d lt in
    let low : 1 ≤ unsigned_abs (get_or c i d) = isl.0 in
    let high : unsigned_abs (get_or c i d) ≤ m = isl.1 in
    (low, omega arith)

pub AreClauses-more : (m n : ℕ) (cs : List (List ℤ)) → m ≤ n → AreClauses m cs → AreClauses n cs
AreClauses-more m n cs le ok i d lt = AreLiterals-more m n (get_or cs i d) le (ok i d lt)

pub AreClauses-append : (n : ℕ) (cs ds : List (List ℤ)) → AreClauses n cs → AreClauses n ds → AreClauses n (cs ++ ds)
AreClauses-append n cs ds p q = All-from_members (AreLiterals n) (cs ++ ds) (λ c h. elim (Contains-append_cases cs ds c h) [
  | inl i ↦ All-contains (AreLiterals n) cs c p i
  | inr i ↦ All-contains (AreLiterals n) ds c q i
])

-- lists of a few elements
abbrev pub Each : {X : Type 0} → (X → Type 0) → List X → Type 0
Each P [] = Unit {0}
Each P (x ∷ xs) = P x × Each P xs

each_all : {X : Type 0} (P : X → Type 0) (xs : List X) → Each P xs → All P xs
each_all P xs e = All-from_members P xs (members P xs e)
  where
    members : {X : Type 0} (P : X → Type 0) (xs : List X) → Each P xs → (x : X) → Contains xs x → P x
    members P [] e x h = absurd (Contains-nil x h)
    members P (y ∷ ys) e x h = elim (Contains-cons_cases y ys x h) [ inl f ↦ subst P f e.0 | inr i ↦ members P ys e.1 x i ]

-- and back
pub all_each : {X : Type 0} (P : X → Type 0) (xs : List X) → All P xs → Each P xs
all_each P [] h = tt
all_each P (x ∷ xs) h = (h 0 x (omega arith), all_each P xs (λ i d lt. h (suc i) d (omega arith)))

module _ (n : ℕ) where
  pub lits2 : (a b : ℤ) → IsLiteral n a → IsLiteral n b → AreLiterals n (a ∷ b ∷ [])
  lits2 a b p q = each_all (IsLiteral n) (a ∷ b ∷ []) (p, (q, tt))

  pub lits3 : (a b c : ℤ) → IsLiteral n a → IsLiteral n b → IsLiteral n c → AreLiterals n (a ∷ b ∷ c ∷ [])
  lits3 a b c p q r = each_all (IsLiteral n) (a ∷ b ∷ c ∷ []) (p, (q, (r, tt)))

-- the literals of a gate's clauses are its result, its operands, and the opposites of these
gate_literals : (P : ℤ → Type 0) → ((k : ℤ) → P k → P (opposite k)) → (z : ℤ) (o : Operation) → P z → Each P (operands o) → Each (Each P) (defining z o)
gate_literals P opp z (and_of a b) pz (pa, (pb, _)) =
    let nz = opp z pz in ((nz, (pa, tt)), ((nz, (pb, tt)), ((pz, (opp a pa, (opp b pb, tt))), tt)))
gate_literals P opp z (xor_of a b) pz (pa, (pb, _)) =
    let nz = opp z pz in
    let na = opp a pa in
    let nb = opp b pb in
    ((nz, (pa, (pb, tt))), ((nz, (na, (nb, tt))), ((pz, (na, (pb, tt))), ((pz, (pa, (nb, tt))), tt))))
gate_literals P opp z (mux_of s t e) pz (ps, (pt, (pe, _))) =
    let nz = opp z pz in
    let ns = opp s ps in
    ((nz, (ns, (pt, tt))), ((pz, (ns, (opp t pt, tt))), ((nz, (ps, (pe, tt))), ((pz, (ps, (opp e pe, tt))), tt))))

pub defining_in_range : (n : ℕ) (o : Operation) → AreLiterals n (operands o) → AreClauses (suc n) (defining (pos (suc n)) o)
defining_in_range n o ok =
    let z : IsLiteral (suc n) (pos (suc n)) = (omega arith, omega arith) in
    let more : AreLiterals (suc n) (operands o) = AreLiterals-more n (suc n) (operands o) (omega arith) ok in
    clauses (defining (pos (suc n)) o)
    (gate_literals (IsLiteral (suc n)) (IsLiteral-opposite (suc n)) (pos (suc n)) o z (all_each (IsLiteral (suc n)) (operands o) more))
  where
    each_clause : (cs : List (List ℤ)) → Each (Each (IsLiteral (suc n))) cs → Each (AreLiterals (suc n)) cs
    each_clause [] e = tt
    each_clause (c ∷ cs) e = (each_all (IsLiteral (suc n)) c e.0, each_clause cs e.1)

    clauses : (cs : List (List ℤ)) → Each (Each (IsLiteral (suc n))) cs → AreClauses (suc n) cs
    clauses cs e = each_all (AreLiterals (suc n)) cs (each_clause cs e)

pub denies_in_range : (n : ℕ) → AreClauses (suc n) (denies_next n ∷ [])
denies_in_range n = each_all (AreLiterals (suc n)) (denies_next n ∷ []) (each_all (IsLiteral (suc n)) (denies_next n) ((omega arith, omega arith), tt), tt)

-- the largest variable
pub largest-append : (c m : List (List ℤ)) → largest (c ++ m) ≡ max (largest c) (largest m)
largest-append [] m = omega arith
largest-append (clause ∷ c) m = omega (arith, largest-append c m)

-- clauses in range have no larger variable
largest_under : (m : ℕ) (cs : List (List ℤ)) → AreClauses m cs → largest cs ≤ m
largest_under m [] ok = omega arith
largest_under m (c ∷ cs) ok = omega (arith, in_clause c (ok 0 c (omega arith)), largest_under m cs (λ i d lt. ok (suc i) d (omega arith)))
  where
    in_clause : (c : List ℤ) → AreLiterals m c → largest_in c ≤ m
    in_clause [] ok = omega arith
    in_clause (k ∷ ks) ok = omega (arith, (ok 0 k (omega arith)).1, in_clause ks (λ i d lt. ok (suc i) d (omega arith)))

largest-defining : (n : ℕ) (o : Operation) → AreLiterals n (operands o) → largest (defining (pos (suc n)) o) ≡ suc n
largest-defining n o ok = omega (arith, begins o, largest_under (suc n) (defining (pos (suc n)) o) (defining_in_range n o ok))
  where
    first : (a b c : ℕ) → a ≤ max (max a b) c
    first a b c = omega arith

    begins : (o : Operation) → suc n ≤ largest (defining (pos (suc n)) o)
    begins (and_of a b) = first (suc n) _ _
    begins (xor_of a b) = first (suc n) _ _
    begins (mux_of s t e) = first (suc n) _ _

largest-all : (n : ℕ) (cs : List (List ℤ)) (os : List Operation) → largest cs ≡ n → AreEarlier n os → largest (cs ++ all_defining n os) ≡ n + length os
largest-all n cs [] e earlier = ap largest (append-nil cs) ∙ e ∙ sym (add-zero n)
largest-all n cs (o ∷ os) e earlier =
    let gate = defining (pos (suc n)) o in
    let here : largest (cs ++ gate) ≡ suc n = largest-append cs gate ∙ both_is (largest cs) (largest gate) e (largest-defining n o earlier.0) in
    let rest : largest ((cs ++ gate) ++ all_defining (suc n) os) ≡ suc n + length os = largest-all (suc n) (cs ++ gate) os here earlier.1 in
    let count : suc n + length os ≡ n + length (o ∷ os) = omega arith in
    ap largest (sym (append_assoc cs gate (all_defining (suc n) os))) ∙ rest ∙ count
  where
    both_is : (a b : ℕ) → a ≡ n → b ≡ suc n → max a b ≡ suc n
    both_is a b p q = omega arith

-- the largest variable of defined clauses is the number of variables
pub largest_is : (free vars : ℕ) (fixed : List (List ℤ)) → IsDefined free vars fixed → largest fixed ≡ vars
largest_is free vars fixed d =
    ap largest d.shape ∙ largest-all (suc free) (denies_next free ∷ []) d.gates (first free) d.earlier ∙ sym d.count
  where
    first : (free : ℕ) → largest (denies_next free ∷ []) ≡ suc free
    first free = omega arith

pub false_is : (free vars : ℕ) (fixed : List (List ℤ)) → IsDefined free vars fixed → false_variable fixed ≡ suc free
false_is free vars fixed d = ap false_variable d.shape ∙ first free
  where
    first : (free : ℕ) → max (suc free) 0 ≡ suc free
    first free = omega arith

-- there is at least the false variable
pub defined_more : (free vars : ℕ) (fixed : List (List ℤ)) → IsDefined free vars fixed → free < vars
defined_more free vars fixed d = omega (arith, d.count)

-- one more gate
all_defining-push : (n : ℕ) (os : List Operation) (o : Operation) → all_defining n (os ++ o ∷ []) ≡ all_defining n os ++ defining (pos (suc (n + length os))) o
all_defining-push n [] o = append-nil (defining (pos (suc n)) o) ∙ ap (λ k. defining (pos (suc k)) o) (sym (add-zero n))
all_defining-push n (p ∷ os) o =
    let count : suc n + length os ≡ n + length (p ∷ os) = omega arith in
    ap (λ z. defining (pos (suc n)) p ++ z) (all_defining-push (suc n) os o ∙ ap (λ k. all_defining (suc n) os ++ defining (pos (suc k)) o) count)
    ∙ sym (append_assoc (defining (pos (suc n)) p) (all_defining (suc n) os) (defining (pos (suc (n + length (p ∷ os)))) o))

AreEarlier-push : (n : ℕ) (os : List Operation) (o : Operation) → AreEarlier n os → AreLiterals (n + length os) (operands o) → AreEarlier n (os ++ o ∷ [])
AreEarlier-push n [] o e ok = (subst (λ k. AreLiterals k (operands o)) (add-zero n) ok, tt)
AreEarlier-push n (p ∷ os) o e ok =
    let count : n + length (p ∷ os) ≡ suc n + length os = omega arith in
    (e.0, AreEarlier-push (suc n) os o e.1 (subst (λ k. AreLiterals k (operands o)) count ok))

pub defined_push : (free vars : ℕ) (fixed new : List (List ℤ)) (o : Operation) → IsDefined free vars fixed → AreLiterals vars (operands o)
    → new ≡ fixed ++ defining (pos (suc vars)) o → IsDefined free (vars + 1) new
defined_push free vars fixed new o d ok e =
    let len : length (d.gates ++ o ∷ []) ≡ length d.gates + 1 = length-append d.gates (o ∷ []) in
    let top : vars ≡ suc free + length d.gates = d.count in
    record {
      gates = d.gates ++ o ∷ [];
      shape = e ∙ ap (λ z. z ++ defining (pos (suc vars)) o) d.shape
          ∙ ap (λ z. denies_next free ∷ z) (ap (λ k. all_defining (suc free) d.gates ++ defining (pos (suc k)) o) top ∙ sym (all_defining-push (suc free) d.gates o));
      count = omega arith;
      earlier = AreEarlier-push (suc free) d.gates o d.earlier (subst (λ k. AreLiterals k (operands o)) top ok);
    }

pub defined_start : (free : ℕ) → IsDefined free (free + 1) (denies_next free ∷ [])
defined_start free = record { gates = []; shape = refl; count = omega arith; earlier = tt }

-- the same of a fact that is there once at most
pub largest_of : (free vars : ℕ) (fixed : List (List ℤ)) → ∥ IsDefined free vars fixed ∥₁ → largest fixed ≡ vars
largest_of free vars fixed h = ∥∥₁_elim h (Coded-set coded_ℕ _ _) (λ d. largest_is free vars fixed d)

pub false_of : (free vars : ℕ) (fixed : List (List ℤ)) → ∥ IsDefined free vars fixed ∥₁ → false_variable fixed ≡ suc free
false_of free vars fixed h = ∥∥₁_elim h (Coded-set coded_ℕ _ _) (λ d. false_is free vars fixed d)
