-- One more literal on a trail keeps the marks.
use Rattle.std.proofs.Common.{◌≡◌, ℕ, zero, suc, ◌+◌, ◌*◌, ◌<◌, ◌≤◌, ◌⊎◌, inl, inr, ℤ, pos, negsuc, Bool, true, false, not, cond, length-append, take, IsTrue, ◌↔◌, List, [], ◌∷◌, ◌++◌, length, set, get_or, refl, sym, ◌∙◌, subst, ap, arith, unsigned_abs, get_or-set_other, get_or-set_same}
use Rattle.std.proofs.Math.ListN.{length-set, get_or-append}
use Rattle.std.proofs.Math.Nat.{eq-or-lt_of_le}
use Rattle.std.specs.List.{Contains, All, count_by}
use Rattle.std.proofs.Math.Seq.{get_or-append_seam, take-append_seam}
use Rattle.std.proofs.lemmas.List.{get_or_default, take-append-le}
use Rattle.std.proofs.lemmas.List.Sums.{sum_by-set}
use Rattle.std.proofs.lemmas.List.Elements.{All-push, All-take, All-contains, Contains-get_or, Contains-push_cases, Contains-push, Contains-append_left}
use Rattle.rst_clause.specs.Literals.{opposite, IsLiteral}
use Rattle.rst_clause.specs.Trails.{place_of, IsConsistent, IsOnce, AreMarks}
use Rattle.rst_clause.proofs.Members.{opposite-opposite, same_or_not}

pub place_of-same : (k l : ℤ) → place_of k ≡ place_of l → k ≡ l
place_of-same (pos a) (pos b) e = ap pos (omega arith)
place_of-same (pos a) (negsuc b) e = absurd (omega arith)
place_of-same (negsuc a) (pos b) e = absurd (omega arith)
place_of-same (negsuc a) (negsuc b) e = ap negsuc (omega arith)

not_true : (b : Bool) → (b ≡ true → ⊥) → b ≡ false
not_true true h = absurd (h refl)
not_true false h = refl

abbrev weight_of : Bool → ℕ
weight_of x = cond (not x) 1 0

-- of one more mark that is set, one less is open
count_by-set_lem : (marks : List Bool) (i : ℕ) → i < length marks → get_or marks i false ≡ false
    → count_by not (set marks i true) + 1 ≡ count_by not marks
count_by-set_lem marks i lt e = sums (count_by not (set marks i true)) (count_by not marks) (weight_of (get_or marks i false)) (ap weight_of e)
    (sum_by-set weight_of marks i true false lt)
  where
    sums : (a b w : ℕ) → w ≡ 1 → a + w ≡ b + 0 → a + 1 ≡ b
    sums a b w e f = omega arith

place_of-bound : (k : ℤ) (vars : ℕ) → unsigned_abs k ≤ vars → place_of k < 2 * vars + 2
place_of-bound (pos a) vars h = omega arith
place_of-bound (negsuc a) vars h = omega arith

itself_not : (k : ℤ) → 0 < unsigned_abs k → opposite k ≡ k → ⊥
itself_not (pos zero) h e = absurd (omega arith)
itself_not (pos (suc n)) h e = cc
itself_not (negsuc n) h e = cc

consistent-push : (t : List ℤ) (l : ℤ) → IsConsistent t → 0 < unsigned_abs l → (Contains t (opposite l) → ⊥) → IsConsistent (t ++ l ∷ [])
consistent-push t l c nz open' k h o = elim (Contains-push_cases t l k h) [
  | inl i ↦ elim (Contains-push_cases t l (opposite k) o) [
    | inl j ↦ c k i j
    | inr e ↦ open' (subst (λ z. Contains t z) (sym (ap opposite e ∙ opposite-opposite k)) i)
  ]
  | inr e ↦ elim (Contains-push_cases t l (opposite k) o) [
    | inl j ↦ open' (subst (λ z. Contains t (opposite z)) (sym e) j)
    | inr f ↦ itself_not l nz (ap opposite e ∙ sym f)
  ]
]

room-push : (n : ℕ) (marks : List Bool) (i : ℕ) → i < length marks → get_or marks i false ≡ false
    → n + count_by not marks ≡ length marks → n + 1 + count_by not (set marks i true) ≡ length marks
room-push n marks i at open' e = let s = count_by-set_lem marks i at open' in omega arith

once-push : (t : List ℤ) (l : ℤ) → IsOnce t → (Contains t l → ⊥) → IsOnce (t ++ l ∷ [])
once-push t l o new i j lt le e =
    let len : length (t ++ l ∷ []) ≡ length t + 1 = length-append t (l ∷ []) in
    let li : get_or (t ++ l ∷ []) i (pos 0) ≡ get_or t i (pos 0) = get_or-append t (l ∷ []) (pos 0) i (omega arith) in
    elim (lt_or_same j (length t) (omega arith)) [
      | inl a ↦ o i j lt a (sym li ∙ e ∙ get_or-append t (l ∷ []) (pos 0) j a)
      | inr b ↦
          let lj : get_or (t ++ l ∷ []) j (pos 0) ≡ l = ap (λ n. get_or (t ++ l ∷ []) n (pos 0)) b ∙ get_or-append_seam t l [] (pos 0) in
          new (subst (λ z. Contains t z) (sym li ∙ e ∙ lj) (Contains-get_or t i (pos 0) (omega arith)))
    ]
  where
    lt_or_same : (a b : ℕ) → a < b + 1 → (a < b) ⊎ (a ≡ b)
    lt_or_same a b h = let le : a ≤ b = omega arith in elim (eq-or-lt_of_le le) [ inl p ↦ inr p | inr q ↦ inl q ]

pub AreMarks-push : (vars : ℕ) (t : List ℤ) (reasons : List ℕ) (marks : List Bool) (l : ℤ) (r : ℕ) → AreMarks vars t reasons marks
    → unsigned_abs l ≤ vars → 0 < unsigned_abs l → (Contains t l → ⊥) → (Contains t (opposite l) → ⊥)
    → AreMarks vars (t ++ l ∷ []) (set reasons (unsigned_abs l) r) (set marks (place_of l) true)
AreMarks-push vars t reasons marks l r m le nz new open' =
    let at : place_of l < length marks = omega (arith, place_of-bound l vars le, m.size) in
    let unmarked : get_or marks (place_of l) false ≡ false = not_true (get_or marks (place_of l) false) (λ h. new (m.stands l h)) in
    let len : length (t ++ l ∷ []) ≡ length t + 1 = length-append t (l ∷ []) in
    let size' : length (set marks (place_of l) true) ≡ length marks = length-set marks (place_of l) true in
    let room' : length t + 1 + count_by not (set marks (place_of l) true) ≡ length marks = room-push (length t) marks (place_of l) at unmarked (m.room ∙ sym m.size) in
    record {
      few = m.few;
      size = size' ∙ m.size;
      slots = length-set reasons (unsigned_abs l) r ∙ m.slots;
      room = ap (λ n. n + count_by not (set marks (place_of l) true)) len ∙ room' ∙ m.size;
      in_range = All-push (IsLiteral vars) t l m.in_range (omega arith, le);
      consistent = consistent-push t l m.consistent nz open';
      once = once-push t l m.once new;
      stands = λ k h. elim (same_or_not l k) [
        | inl e ↦ subst (λ z. Contains (t ++ l ∷ []) z) e (Contains-push t l)
        | inr ne ↦ Contains-append_left t (l ∷ []) k (m.stands k
            (sym (get_or-set_other marks (place_of l) (place_of k) true false (λ e. ne (sym (place_of-same k l e)))) ∙ h))
      ];
      marked = λ k h. elim (same_or_not l k) [
        | inl e ↦ subst (λ z. get_or (set marks (place_of l) true) (place_of z) false ≡ true) e (get_or-set_same marks (place_of l) true false at)
        | inr ne ↦ get_or-set_other marks (place_of l) (place_of k) true false (λ e. ne (sym (place_of-same k l e)))
            ∙ m.marked k (elim (Contains-push_cases t l k h) [ inl i ↦ i | inr e ↦ absurd (ne e) ])
      ];
    }

-- what the mark of a literal says
pub mark_tells : (vars : ℕ) (t : List ℤ) (reasons : List ℕ) (marks : List Bool) (l : ℤ) (i : ℕ) (b : Bool) → AreMarks vars t reasons marks
    → unsigned_abs l ≤ vars → i ≡ place_of l → b ≡ get_or marks i b → IsTrue b ↔ Contains t l
mark_tells vars t reasons marks l i b m le e is =
    let at : place_of l < length marks = omega (arith, place_of-bound l vars le, m.size) in
    let read : b ≡ get_or marks (place_of l) false = is ∙ ap (λ n. get_or marks n b) e ∙ get_or_default marks (place_of l) b false at in
    ((λ h. m.stands l (sym read ∙ h)), (λ h. read ∙ m.marked l h))

pub room_le : (n k m : ℕ) → n + k ≡ m → n ≤ m
room_le n k m e = omega arith

pub AreMarks-pop : (vars : ℕ) (t : List ℤ) (reasons : List ℕ) (marks : List Bool) (l : ℤ) → AreMarks vars (t ++ l ∷ []) reasons marks
    → AreMarks vars t reasons (set marks (place_of l) false)
AreMarks-pop vars t reasons marks l m =
    let len : length (t ++ l ∷ []) ≡ length t + 1 = length-append t (l ∷ []) in
    let isl : IsLiteral vars l = All-contains (IsLiteral vars) (t ++ l ∷ []) l m.in_range (Contains-push t l) in
    let at : place_of l < length marks = omega (arith, place_of-bound l vars isl.1, m.size) in
    let was : get_or marks (place_of l) false ≡ true = m.marked l (Contains-push t l) in
    let count : count_by not (set marks (place_of l) false) ≡ count_by not marks + 1 = count_by-unset marks (place_of l) at was in
    record {
      few = m.few;
      size = length-set marks (place_of l) false ∙ m.size;
      slots = m.slots;
      room = more_room (length t) (length (t ++ l ∷ [])) (count_by not marks) (count_by not (set marks (place_of l) false)) (2 * vars + 2) len count m.room;
      in_range = subst (λ z. All (IsLiteral vars) z) (take-append_seam t (l ∷ [])) (All-take (IsLiteral vars) (length t) (t ++ l ∷ []) m.in_range);
      consistent = λ k h o. m.consistent k (Contains-append_left t (l ∷ []) k h) (Contains-append_left t (l ∷ []) (opposite k) o);
      once = λ i j lt le e. m.once i j lt (omega arith) (get_or-append t (l ∷ []) (pos 0) i (omega arith) ∙ e ∙ sym (get_or-append t (l ∷ []) (pos 0) j le));
      stands = λ k h. elim (same_or_not l k) [
        | inl e ↦ absurd (let f : false ≡ true = sym (get_or-set_same marks (place_of l) false false at) ∙ ap (λ z. get_or (set marks (place_of l) false) (place_of z) false) e ∙ h in cc)
        | inr ne ↦ elim (Contains-push_cases t l k (m.stands k (sym (get_or-set_other marks (place_of l) (place_of k) false false (λ e. ne (sym (place_of-same k l e)))) ∙ h))) [
          | inl i ↦ i
          | inr e ↦ absurd (ne e)
        ]
      ];
      marked = λ k h. get_or-set_other marks (place_of l) (place_of k) false false (λ e. not_last t l m.once (subst (λ z. Contains t z) (place_of-same k l e) h))
          ∙ m.marked k (Contains-append_left t (l ∷ []) k h);
    }
  where
    more_room : (n n' c c' s : ℕ) → n' ≡ n + 1 → c' ≡ c + 1 → n' + c ≡ s → n + c' ≡ s
    more_room n n' c c' s e f g = omega arith

    count_by-unset : (marks : List Bool) (i : ℕ) → i < length marks → get_or marks i false ≡ true → count_by not (set marks i false) ≡ count_by not marks + 1
    count_by-unset marks i lt e = sums (count_by not (set marks i false)) (count_by not marks) (weight_of (get_or marks i false)) (ap weight_of e)
        (sum_by-set weight_of marks i false false lt)
      where
        sums : (a b w : ℕ) → w ≡ 0 → a + w ≡ b + 1 → a ≡ b + 1
        sums a b w e f = omega arith

    not_last : (t : List ℤ) (l : ℤ) → IsOnce (t ++ l ∷ []) → Contains t l → ⊥
    not_last t l o (k, lt, e) =
        let len : length (t ++ l ∷ []) ≡ length t + 1 = length-append t (l ∷ []) in
        o k (length t) lt (omega arith)
        (get_or-append t (l ∷ []) (pos 0) k lt ∙ get_or_default t k (pos 0) l lt ∙ e ∙ sym (get_or-append_seam t l [] (pos 0)))

-- the literals are the first ones of those at the start, and at least the first n
pub record Truncating (vars0 : ℕ) (lits0 : List ℤ) (reasons0 : List ℕ) (vars : ℕ) (lits : List ℤ) (reasons : List ℕ) (marks : List Bool) (n : ℕ) : Type 0 where
  pub marks_are : AreMarks vars lits reasons marks
  pub same_vars : vars ≡ vars0
  pub same_reasons : reasons ≡ reasons0
  pub front : take n lits ≡ take n lits0

pub truncating-step : (vars0 : ℕ) (lits0 : List ℤ) (reasons0 : List ℕ) (vars : ℕ) (lits new : List ℤ) (reasons : List ℕ) (marks : List Bool) (n : ℕ) (l : ℤ)
    → Truncating vars0 lits0 reasons0 vars lits reasons marks n → lits ≡ new ++ l ∷ [] → n < length lits
    → Truncating vars0 lits0 reasons0 vars new reasons (set marks (place_of l) false) n
truncating-step vars0 lits0 reasons0 vars lits new reasons marks n l t e lt =
    let m : AreMarks vars (new ++ l ∷ []) reasons marks = subst (λ z. AreMarks vars z reasons marks) e t.marks_are in
    let len : length lits ≡ length new + 1 = ap length e ∙ length-append new (l ∷ []) in
    let le : n ≤ length new = omega arith in
    record {
      marks_are = AreMarks-pop vars new reasons marks l m;
      same_vars = t.same_vars;
      same_reasons = t.same_reasons;
      front = sym (take-append-le n new (l ∷ []) le) ∙ ap (λ z. take n z) (sym e) ∙ t.front;
    }
