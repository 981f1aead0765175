-- What unit propagation finds is true under each solution.
use Rattle.std.proofs.Common.{◌≡◌, ℕ, zero, suc, ◌<◌, ◌≤◌, inl, inr, ℤ, Bool, true, List, [], ◌∷◌, ◌++◌, length, take, get_or, sym, subst, arith, append_assoc}
use Rattle.std.specs.List.{Contains}
use Rattle.std.proofs.Math.Seq.{take-suc, take-length}
use Rattle.std.proofs.lemmas.List.Elements.{Contains-append_right, Contains-append_cases, Contains-push, All-contains}
use Rattle.rst_clause.specs.Literals.{opposite, literal_holds, Holds, Solves, AreLiterals, IsLiteral}
use Rattle.rst_clause.specs.Propagation.{Derived, Closes, units_against, Follows, IsRefutation}
use Rattle.rst_clause.specs.Propagation.Derived.{unit}
use Rattle.rst_clause.proofs.Members.{Contains-nil, Contains-first, Contains-one, Contains-from_map, same_or_not, not_both, one_of_both, Holds-or}

pub derived_holds : (cs : List (List ℤ)) (v : ℕ → Bool) → Solves v cs → (l : ℤ) → Derived cs l → literal_holds v l ≡ true
derived_holds cs v s l (unit c _ cin lin rest) =
    let h : Holds v c = s c cin in
    elim (same_or_not h.0 l) [
      | inl e ↦ subst (λ z. literal_holds v z ≡ true) e h.2
      | inr ne ↦ absurd (not_both v h.0 h.2 (derived_holds cs v s (opposite h.0) (rest h.0 h.1 ne)))
    ]

-- clauses that close have no solution
pub closes_refutes : (cs : List (List ℤ)) (v : ℕ → Bool) → Closes cs → Solves v cs → ⊥
closes_refutes cs v r s =
    let h : Holds v r.0 = s r.0 r.1 in
    not_both v h.0 h.2 (derived_holds cs v s (opposite h.0) (r.2 h.0 h.1))

Solves-append : (v : ℕ → Bool) (xs ys : List (List ℤ)) → Solves v xs → Solves v ys → Solves v (xs ++ ys)
Solves-append v xs ys p q c h = elim (Contains-append_cases xs ys c h) [ inl i ↦ p c i | inr i ↦ q c i ]

-- a clause that follows holds under each solution
pub follows_holds : (vars : ℕ) (cs : List (List ℤ)) (v : ℕ → Bool) (c : List ℤ) → AreLiterals vars c → Follows cs c → Solves v cs → Holds v c
follows_holds vars cs v c ok f s = elim (Holds-or v c) [
  | inl h ↦ h
  | inr none ↦ absurd (closes_refutes (units_against c ++ cs) v f
      (Solves-append v (units_against c) cs (λ u uin.
      let r : (l : ℤ) × Contains c l × (u ≡ opposite l ∷ []) = Contains-from_map (λ l. opposite l ∷ []) c u uin in
      let isl : IsLiteral vars r.0 = All-contains (IsLiteral vars) c r.0 ok r.1 in
      let t : literal_holds v (opposite r.0) ≡ true = one_of_both v r.0 (omega arith) (none r.0 r.1) in
      subst (λ z. Holds v z) (sym r.2) (opposite r.0, Contains-first (opposite r.0) [], t)) s))
]

-- the clauses hold with the first i lines of a refutation
lines_hold : (vars : ℕ) (cs log : List (List ℤ)) → IsRefutation vars cs log → (v : ℕ → Bool) → Solves v cs
    → (i : ℕ) → i ≤ length log → Solves v (cs ++ take i log)
lines_hold vars cs log d v s zero le = Solves-append v cs [] s (λ c h. absurd (Contains-nil c h))
lines_hold vars cs log d v s (suc i) le =
    let lt : i < length log = omega arith in
    let before : Solves v (cs ++ take i log) = lines_hold vars cs log d v s i (omega arith) in
    let ok : AreLiterals vars (get_or log i []) = d.in_range i [] lt in
    let holds : Holds v (get_or log i []) = follows_holds vars (cs ++ take i log) v (get_or log i []) ok (d.follows i lt) before in
    let e : cs ++ take (suc i) log ≡ (cs ++ take i log) ++ get_or log i [] ∷ [] = rw (take-suc log i [] lt) (sym (append_assoc cs (take i log) (get_or log i [] ∷ []))) in
    subst (λ z. Solves v z) (sym e)
    (Solves-append v (cs ++ take i log) (get_or log i [] ∷ []) before
    (λ c h. subst (λ z. Holds v z) (Contains-one (get_or log i []) c h) holds))

pub refutation_refutes : (vars : ℕ) (cs log : List (List ℤ)) → IsRefutation vars cs log → (v : ℕ → Bool) → Solves v cs → ⊥
refutation_refutes vars cs log d v s =
    let all : Solves v (cs ++ log) = subst (λ z. Solves v (cs ++ z)) (take-length log) (lines_hold vars cs log d v s (length log) (omega arith)) in
    let at_end : Contains log [] = subst (λ z. Contains z []) (sym d.ends.1) (Contains-push d.ends.0 []) in
    let h : Holds v [] = all [] (Contains-append_right cs log [] at_end) in
    Contains-nil h.0 h.1
