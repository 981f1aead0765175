-- What the looks of propagation keep: which clauses are quiet, and up to where on the trail.
use Rattle.std.proofs.Common.{◌≡◌, ℕ, ◌+◌, ◌<◌, ◌≤◌, ◌⊎◌, inl, inr, ℤ, pos, true, false, None, Some, List, [], ◌∷◌, ◌++◌, length, take, get_or, refl, sym, ◌∙◌, subst, ap, arith, length-append, unsigned_abs}
use Rattle.std.specs.List.{Contains}
use Rattle.std.proofs.Math.ListN.{get_or-append}
use Rattle.std.proofs.Math.Seq.{get_or-append_seam}
use Rattle.std.proofs.lemmas.Bool.{cases_lt}
use Rattle.std.proofs.lemmas.List.{get_or_default, get_or-take, length-take}
use Rattle.std.proofs.lemmas.List.Elements.{All-contains, Contains-push_cases, Contains-push, Contains-append_left, Contains-get_or}
use Rattle.rst_clause.specs.Literals.{opposite, IsLiteral, AreLiterals, AreClauses}
use Rattle.rst_clause.specs.Trails.{Trail', pushed, Grows, IsConsistent, IsComplete, IsQuiet, IsUnit, AllFalse}
use Rattle.rst_clause.specs.Trails.Grows.{same, more}
use Rattle.rst_clause.specs.Queue.{NoneFalseFrom, IsQuietTo, AreQuietTo, LooksAt, LooksAtAll}
use Rattle.rst_clause.proofs.Members.{same_or_not, opposite-opposite, Contains-take, Contains-nil, Contains-first, Contains-later, Contains-cons_cases}

pub Grows-join : (clauses : List (List ℤ)) (a b c : Trail') → Grows clauses a b → Grows clauses b c → Grows clauses a c
Grows-join clauses a b _ g same = g
Grows-join clauses a b _ g (more t l r h lt slot u) = more t l r (Grows-join clauses a b t g h) lt slot u

pub Grows-longer : (clauses : List (List ℤ)) (s t : Trail') → Grows clauses s t → length s.lits ≤ length t.lits
Grows-longer clauses s _ same = omega arith
Grows-longer clauses s _ (more t l r g lt slot u) =
    let ih : length s.lits ≤ length t.lits = Grows-longer clauses s t g in
    let len : length (t.lits ++ l ∷ []) ≡ length t.lits + 1 = length-append t.lits (l ∷ []) in
    omega arith

-- a clause of the list has literals
pub clause_in_range : (vars : ℕ) (clauses : List (List ℤ)) (i : ℕ) (c : List ℤ) → AreClauses vars clauses → i < length clauses
    → c ≡ get_or clauses i c → AreLiterals vars c
clause_in_range vars clauses i c ok lt e = subst (λ z. AreLiterals vars z) (sym e) (ok i c lt)

pub literal_in_range : (vars : ℕ) (c : List ℤ) (l : ℤ) → AreLiterals vars c → Contains c l → IsLiteral vars l
literal_in_range vars c l ok h = All-contains (IsLiteral vars) c l ok h

-- a clause that is quiet on a trail is so on one in which no further literal of it is false
quiet_wider : (small big c : List ℤ) → ((k : ℤ) → Contains small k → Contains big k)
    → ((k : ℤ) → Contains c k → Contains big (opposite k) → Contains small (opposite k)) → IsQuiet small c → IsQuiet big c
quiet_wider small big c up down q = record {
  not_false = λ f. q.not_false (λ k kin. down k kin (f k kin));
  implied = λ l lin f. up l (q.implied l lin (λ k kin ne. down k kin (f k kin ne)));
}

-- the opposite of the literal at p
opposite_at : (t c : List ℤ) (k : ℤ) (p : ℕ) → p < length t → Contains c k → get_or t p (opposite k) ≡ opposite k → Contains c (opposite (get_or t p (pos 0)))
opposite_at t c k p lt kin e =
    subst (λ z. Contains c z) (sym (ap opposite (sym (get_or_default t p (opposite k) (pos 0) lt) ∙ e) ∙ opposite-opposite k)) kin

-- a literal of the first n
first_contains : (n : ℕ) (t : List ℤ) (x : ℤ) (p : ℕ) → p < n → p < length t → get_or t p x ≡ x → Contains (take n t) x
first_contains n t x p low lt e = (p, omega (arith, length-take n t), get_or-take n t p x low ∙ e)

-- a clause that is quiet on the first n literals
pub quiet_to_first : (n : ℕ) (t c : List ℤ) → IsQuiet (take n t) c → IsQuietTo n t c
quiet_to_first n t c q none = quiet_wider (take n t) t c (λ k h. Contains-take n t k h) (λ k kin (p, lt, e).
    elim (cases_lt p n) [
      | inl low ↦ first_contains n t (opposite k) p low lt e
      | inr high ↦ absurd (none p high lt (opposite_at t c k p lt kin e))
    ]) q

-- one more literal
quiet_to_pushed : (n : ℕ) (t c : List ℤ) (l : ℤ) → n ≤ length t → IsQuietTo n t c → IsQuietTo n (t ++ l ∷ []) c
quiet_to_pushed n t c l le q none =
    let len : length (t ++ l ∷ []) ≡ length t + 1 = length-append t (l ∷ []) in
    let before : NoneFalseFrom n t c = λ p low lt h. none p low (omega arith)
    (subst (λ z. Contains c (opposite z)) (sym (get_or-append t (l ∷ []) (pos 0) p lt)) h) in
    quiet_wider t (t ++ l ∷ []) c (λ k h. Contains-append_left t (l ∷ []) k h) (λ k kin h.
    elim (Contains-push_cases t l (opposite k) h) [
      | inl i ↦ i
      | inr e ↦ absurd (none (length t) le (omega arith)
          (subst (λ z. Contains c z) (sym (ap opposite (get_or-append_seam t l [] (pos 0) ∙ e) ∙ opposite-opposite k)) kin))
    ]) (q before)

-- a trail that grew
pub quiet_to_grown : (clauses : List (List ℤ)) (n : ℕ) (s t : Trail') (c : List ℤ) → Grows clauses s t → n ≤ length s.lits
    → IsQuietTo n s.lits c → IsQuietTo n t.lits c
quiet_to_grown clauses n s _ c same le q = q
quiet_to_grown clauses n s _ c (more t l r g lt slot u) le q =
    let up : length s.lits ≤ length t.lits = Grows-longer clauses s t g in
    quiet_to_pushed n t.lits c l (omega arith) (quiet_to_grown clauses n s t c g le q)

-- fewer literals wait
pub quiet_to_less : (n m : ℕ) (t c : List ℤ) → n ≤ m → IsQuietTo m t c → IsQuietTo n t c
quiet_to_less n m t c le q none = q (λ p high lt h. none p (omega arith) lt h)

-- a clause with a literal that stands
pub quiet_standing : (t c : List ℤ) (l : ℤ) → IsConsistent t → Contains c l → Contains t l → IsQuiet t c
quiet_standing t c l cons lin has = record {
  not_false = λ f. cons l has (f l lin);
  implied = λ k kin f. elim (same_or_not l k) [
    | inl e ↦ subst (λ z. Contains t z) e has
    | inr ne ↦ absurd (cons l has (f l lin ne))
  ];
}

-- before the first look
pub looks_start : (clauses : List (List ℤ)) (Among : ℕ → Type 0) (t : Trail') → ((i : ℕ) → Among i → ⊥) → LooksAtAll clauses Among t t None
looks_start clauses Among t none = record { grows = same; vars = refl; outcome = λ i lt a. absurd (none i a) }

-- a look that finds a false clause
pub looks_false : (clauses : List (List ℤ)) (Before Behind : ℕ → Type 0) (s t u : Trail') (i : ℕ) → LooksAtAll clauses Before s t None
    → LooksAt clauses i t u true → LooksAtAll clauses Behind s u (Some i)
looks_false clauses Before Behind s t u i w a = record {
  grows = Grows-join clauses s t u w.grows a.grows;
  vars = a.vars ∙ w.vars;
  outcome = a.false_one refl;
}

-- a look that finds none
pub looks_more : (clauses : List (List ℤ)) (Before Behind : ℕ → Type 0) (s t u : Trail') (i : ℕ) → LooksAtAll clauses Before s t None
    → LooksAt clauses i t u false → ((j : ℕ) → Behind j → Before j ⊎ (j ≡ i)) → LooksAtAll clauses Behind s u None
looks_more clauses Before Behind s t u i w a cases = record {
  grows = Grows-join clauses s t u w.grows a.grows;
  vars = a.vars ∙ w.vars;
  outcome = λ j lt b none. elim (cases j b) [
    | inl before ↦ quiet_to_grown clauses (length s.lits) t u (get_or clauses j []) a.grows (Grows-longer clauses s t w.grows) (w.outcome j lt before) none
    | inr e ↦ subst (λ z. IsQuiet u.lits (get_or clauses z [])) (sym e) (a.quiet refl)
  ];
}

-- other words for the same numbers, or for fewer
pub looks_among : (clauses : List (List ℤ)) (Before Behind : ℕ → Type 0) (s t : Trail') → LooksAtAll clauses Before s t None
    → ((j : ℕ) → j < length clauses → Behind j → Before j) → LooksAtAll clauses Behind s t None
looks_among clauses Before Behind s t w fewer = record { grows = w.grows; vars = w.vars; outcome = λ j lt b. w.outcome j lt (fewer j lt b) }

-- the start: the first clauses are quiet on the first literals, and the others were looked at
pub quiet_at_start : (clauses : List (List ℤ)) (from since : ℕ) (s t : Trail') → from ≤ length s.lits
    → IsComplete (take from s.lits) (take since clauses) → LooksAtAll clauses (λ i. since ≤ i) s t None
    → AreQuietTo clauses (λ _. Unit {0}) from t.lits
quiet_at_start clauses from since s t le q w i lt any = elim (cases_lt i since) [
  | inl low ↦
      quiet_to_grown clauses from s t (get_or clauses i []) w.grows le
      (quiet_to_first from s.lits (get_or clauses i []) (q (get_or clauses i []) (first_clause low)))
  | inr high ↦ quiet_to_less from (length s.lits) t.lits (get_or clauses i []) le (w.outcome i lt high)
]
  where
    first_clause : i < since → Contains (take since clauses) (get_or clauses i [])
    first_clause low =
        subst (λ z. Contains (take since clauses) z) (get_or-take since clauses i [] low) (Contains-get_or (take since clauses) i [] (omega (arith, length-take since clauses)))

-- a clause has a literal, or not
has_or_not : (c : List ℤ) (k : ℤ) → Contains c k ⊎ (Contains c k → ⊥)
has_or_not [] k = inr (Contains-nil k)
has_or_not (x ∷ xs) k = elim (same_or_not x k) [
  | inl e ↦ inl (subst (λ z. Contains (x ∷ xs) z) e (Contains-first x xs))
  | inr ne ↦ elim (has_or_not xs k) [
    | inl i ↦ inl (Contains-later x xs k i)
    | inr missing ↦ inr (λ h. elim (Contains-cons_cases x xs k h) [ inl e ↦ ne e | inr i ↦ missing i ])
  ]
]

-- behind the looks for the n-th literal
pub quiet_next : (clauses : List (List ℤ)) (n : ℕ) (l : ℤ) (t u : Trail') → n < length t.lits → l ≡ get_or t.lits n (pos 0)
    → AreQuietTo clauses (λ _. Unit {0}) n t.lits
    → LooksAtAll clauses (λ i. Contains (get_or clauses i []) (opposite l)) t u None
    → AreQuietTo clauses (λ _. Unit {0}) (n + 1) u.lits
quiet_next clauses n l t u lt is before w i below any = elim (has_or_not (get_or clauses i []) (opposite l)) [
  | inl h ↦ quiet_to_less (n + 1) (length t.lits) u.lits (get_or clauses i []) (omega arith) (w.outcome i below h)
  | inr missing ↦ λ none.
      quiet_to_grown clauses n t u (get_or clauses i []) w.grows (omega arith) (before i below any) (λ p low high h.
      elim (cases_lt n p) [
        | inl later ↦ none p (omega arith) high h
        | inr le ↦
            let e : p ≡ n = omega arith in
            missing (subst (λ z. Contains (get_or clauses i []) (opposite z))
            (ap (λ m. get_or u.lits m (pos 0)) e ∙ grown_at clauses t u n w.grows lt ∙ sym is) h)
      ])
]
  where
    grown_at : (clauses : List (List ℤ)) (s t : Trail') (n : ℕ) → Grows clauses s t → n < length s.lits → get_or t.lits n (pos 0) ≡ get_or s.lits n (pos 0)
    grown_at clauses s _ n same lt = refl
    grown_at clauses s _ n (more t l r g lt' slot u) lt =
        let up : length s.lits ≤ length t.lits = Grows-longer clauses s t g in
        get_or-append t.lits (l ∷ []) (pos 0) n (omega arith) ∙ grown_at clauses s t n g lt

-- nothing waits
pub quiet_all : (clauses : List (List ℤ)) (n : ℕ) (t : List ℤ) → length t ≤ n → AreQuietTo clauses (λ _. Unit {0}) n t → IsComplete t clauses
quiet_all clauses n t le q c (k, lt, e) =
    subst (λ z. IsQuiet t z) (get_or_default clauses k [] c lt ∙ e) (q k lt tt (λ p low high h. absurd (omega arith)))

-- a clause that is false
pub look_false : (clauses : List (List ℤ)) (i : ℕ) (t : Trail') → i < length clauses → AllFalse t.lits (get_or clauses i []) → LooksAt clauses i t t true
look_false clauses i t lt f = record { grows = same; vars = refl; false_one = λ e. (lt, f); quiet = λ e. cc }

-- a clause that implies a literal
pub look_unit : (clauses : List (List ℤ)) (i : ℕ) (t : Trail') (l : ℤ) → i < length clauses → unsigned_abs l < length t.reasons
    → IsUnit t.lits (get_or clauses i []) l → IsConsistent (t.lits ++ l ∷ []) → LooksAt clauses i t (pushed t l i) false
look_unit clauses i t l lt slot u cons = record {
  grows = more t l i same lt slot u;
  vars = refl;
  false_one = λ e. cc;
  quiet = λ e. quiet_standing (t.lits ++ l ∷ []) (get_or clauses i []) l cons u.has (Contains-push t.lits l);
}

-- a quiet clause
pub look_quiet : (clauses : List (List ℤ)) (i : ℕ) (t : Trail') → IsQuiet t.lits (get_or clauses i []) → LooksAt clauses i t t false
look_quiet clauses i t q = record { grows = same; vars = refl; false_one = λ e. cc; quiet = λ e. q }

-- the literals from the n-th on wait
pub record Waiting (clauses : List (List ℤ)) (initial trail : Trail') (n : ℕ) : Type 0 where
  pub grows : Grows clauses initial trail
  pub vars : trail.vars ≡ initial.vars
  pub place : n ≤ length trail.lits
  pub quiet : AreQuietTo clauses (λ _. Unit {0}) n trail.lits
