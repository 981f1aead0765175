-- All lines of a log.
use Rattle.std.proofs.Common.{◌≡◌, ℕ, suc, ◌+◌, ◌-◌, ◌<◌, ◌≤◌, inl, inr, min, ℤ, List, [], ◌∷◌, ◌++◌, length, take, get_or, refl, sym, ◌∙◌, subst, ap, arith, append_assoc, length-append, append-nil, add-one, below_more}
use Rattle.std.proofs.Math.Seq.{take-suc, take-length, get_or-append_seam}
use Rattle.std.proofs.lemmas.Bool.{cases_lt}
use Rattle.std.proofs.lemmas.List.{get_or-take, length-take}
use Rattle.std.proofs.lemmas.List.Elements.{Contains-push, Contains-get_or, Contains-append_left, Contains-append_right, Contains-append_cases}
use Rattle.rst_clause.specs.Literals.{opposite}
use Rattle.rst_clause.specs.Propagation.{Closes, units_against, Follows, AllDerived}
use Rattle.rst_clause.specs.Trails.{Trail', Grows, AllFalse}
use Rattle.rst_clause.specs.Queue.{IsFalseAt}
use Rattle.rst_clause.proofs.Extending.{AreAmong, derived_more}
use Rattle.rst_clause.proofs.Grown.{grown_derived, false_closes}
use Rattle.rst_clause.proofs.Members.{Contains-take}
use Rattle.rst_check.specs.Lines.{EachFollows}

-- a line follows from clauses that close, and more
closes_follows : (small big : List (List ℤ)) (line : List ℤ) → AreAmong small big → Closes small → Follows big line
closes_follows small big line among r =
    let ds = units_against line ++ big in
    let in' : AreAmong small ds = λ c h. Contains-append_right (units_against line) big c (among c h) in
    (r.0, in' r.0 r.1, λ k kin. derived_more small ds in' (opposite k) (r.2 k kin))

-- the first lines are among more of them
take_among : (log : List (List ℤ)) (n j : ℕ) → n ≤ j → AreAmong (take n log) (take j log)
take_among log n j le c (p, lt, e) =
    let at : p < min n (length log) = subst (λ m. p < m) (length-take n log) lt in
    (p, omega (arith, length-take j log, at), get_or-take j log p c (omega arith) ∙ sym (get_or-take n log p c (omega arith)) ∙ e)

-- the first i lines follow and are added, and the trail has what is implied then
pub record Replayed (cs log : List (List ℤ)) (old : Trail') (all : List (List ℤ)) (trail : Trail') (i : ℕ) : Type 0 where
  pub all_is : all ≡ cs ++ take i log
  pub follows : (j : ℕ) → j < i → Follows (cs ++ take j log) (get_or log j [])
  pub vars : trail.vars ≡ old.vars
  pub derived : AllDerived all trail.lits

pub replayed_start : (cs log : List (List ℤ)) (t : Trail') → AllDerived cs t.lits → Replayed cs log t cs t 0
replayed_start cs log t d = record { all_is = sym (append-nil cs); follows = λ j h. absurd (omega arith); vars = refl; derived = d }

module _ (cs log : List (List ℤ)) (old : Trail') (all : List (List ℤ)) (trail : Trail') (i : ℕ) (w : Replayed cs log old all trail i) where
  -- one more line
  module _ (c : List ℤ) (lt : i < length log) (read : c ≡ get_or log i []) where
    one_more : all ++ c ∷ [] ≡ cs ++ take (i + 1) log
    one_more =
        let line : take (i + 1) log ≡ take i log ++ c ∷ [] = rw add-one (take-suc log i [] lt ∙ ap (λ z. take i log ++ z ∷ []) (sym read)) in
        ap (λ z. z ++ c ∷ []) w.all_is ∙ append_assoc cs (take i log) (c ∷ []) ∙ ap (λ z. cs ++ z) (sym line)

    follow_more : Follows all c → (j : ℕ) → j < i + 1 → Follows (cs ++ take j log) (get_or log j [])
    follow_more f =
        below_more (λ j. Follows (cs ++ take j log) (get_or log j [])) i w.follows
        (subst (λ z. Follows (cs ++ take i log) z) read (subst (λ z. Follows z c) w.all_is f))

    -- a line that doesn't follow
    pub not_replayed : (Follows all c → ⊥) → EachFollows cs log → ⊥
    not_replayed fails each =
        fails (subst (λ z. Follows z c) (sym w.all_is) (subst (λ z. Follows (cs ++ take i log) z) (sym read) (each i lt)))

    -- and behind it
    pub replayed_more : (all' : List (List ℤ)) (new : Trail') → Follows all c → all' ≡ all ++ c ∷ [] → new.vars ≡ trail.vars → AllDerived all' new.lits → Replayed cs log old all' new (i + 1)
    replayed_more all' new f e v d = record {
      all_is = e ∙ one_more;
      follows = follow_more f;
      vars = v ∙ w.vars;
      derived = d;
    }

    -- where a clause is false behind it, each further line follows
    pub replayed_closed : Follows all c → Closes (all ++ c ∷ []) → EachFollows cs log
    replayed_closed f closes j lt' = elim (cases_lt j (i + 1)) [
      | inl low ↦ follow_more f j low
      | inr high ↦ closes_follows (cs ++ take (i + 1) log) (cs ++ take j log) (get_or log j []) (more j high) (subst (λ z. Closes z) one_more closes)
    ]
      where
        more : (j : ℕ) → i + 1 ≤ j → AreAmong (cs ++ take (i + 1) log) (cs ++ take j log)
        more j le d h = elim (Contains-append_cases cs (take (i + 1) log) d h) [
          | inl a ↦ Contains-append_left cs (take j log) d a
          | inr b ↦ Contains-append_right cs (take j log) d (take_among log (i + 1) j le d b)
        ]

  pub replayed_all : length log ≤ i → EachFollows cs log
  replayed_all le j lt = w.follows j (omega arith)

-- clauses that close already
pub closed_follows : (cs log : List (List ℤ)) → Closes cs → EachFollows cs log
closed_follows cs log r i lt = closes_follows cs (cs ++ take i log) (get_or log i []) (λ c h. Contains-append_left cs (take i log) c h) r

-- one more clause, and what stands is derived
pub learned_derived : (cs : List (List ℤ)) (clause : List ℤ) (s t : Trail') → AllDerived cs s.lits → Grows (cs ++ clause ∷ []) s t → AllDerived (cs ++ clause ∷ []) t.lits
learned_derived cs clause s t d g =
    grown_derived (cs ++ clause ∷ []) (cs ++ clause ∷ []) s t (λ c h. h) g
    (λ k h. derived_more cs (cs ++ clause ∷ []) (λ c j. Contains-append_left cs (clause ∷ []) c j) k (d k h))

-- a clause that is false on what is derived
pub learned_closes : (cs : List (List ℤ)) (clause t : List ℤ) → AllDerived cs t → AllFalse t clause → Closes (cs ++ clause ∷ [])
learned_closes cs clause t d f =
    false_closes (cs ++ clause ∷ []) t clause (Contains-push cs clause) (λ k h. derived_more cs (cs ++ clause ∷ []) (λ c j. Contains-append_left cs (clause ∷ []) c j) k (d k h)) f

-- a clause that propagation found false
pub found_closes : (cs : List (List ℤ)) (s t : Trail') (i : ℕ) → AllDerived cs s.lits → Grows cs s t → IsFalseAt cs t.lits i → Closes cs
found_closes cs s t i d g f =
    false_closes cs t.lits (get_or cs i []) (Contains-get_or cs i [] f.0) (grown_derived cs cs s t (λ c h. h) g d) f.1

-- among more clauses
pub closes_among : (small big : List (List ℤ)) → AreAmong small big → Closes small → Closes big
closes_among small big among r = (r.0, among r.0 r.1, λ k kin. derived_more small big among (opposite k) (r.2 k kin))

pub learned_all : (cs all : List (List ℤ)) (clause : List ℤ) (s t : Trail') → AllDerived cs s.lits → all ≡ cs ++ clause ∷ [] → Grows all s t → AllDerived all t.lits
learned_all cs all clause s t d e g = subst (λ z. AllDerived z t.lits) (sym e) (learned_derived cs clause s t d (subst (λ z. Grows z s t) e g))

-- the first clauses of a list are loaded behind others
pub loaded_more : (before cs all : List (List ℤ)) (i : ℕ) (clause : List ℤ) → i < length cs → clause ≡ get_or cs i [] → all ≡ before ++ take i cs
    → all ++ clause ∷ [] ≡ before ++ take (i + 1) cs
loaded_more before cs all i clause lt is e =
    let line : take (i + 1) cs ≡ take i cs ++ clause ∷ [] = rw add-one (take-suc cs i [] lt ∙ ap (λ z. take i cs ++ z ∷ []) (sym is)) in
    ap (λ z. z ++ clause ∷ []) e ∙ append_assoc before (take i cs) (clause ∷ []) ∙ ap (λ z. before ++ z) (sym line)

pub loaded_among : (before cs : List (List ℤ)) (n : ℕ) → AreAmong (before ++ take n cs) (before ++ cs)
loaded_among before cs n c h = elim (Contains-append_cases before (take n cs) c h) [
  | inl a ↦ Contains-append_left before cs c a
  | inr b ↦ Contains-append_right before cs c (Contains-take n cs c b)
]

-- more clauses
pub closes_more : (cs more : List (List ℤ)) → Closes cs → Closes (cs ++ more)
closes_more cs more r =
    (r.0, Contains-append_left cs more r.0 r.1, λ k kin. derived_more cs (cs ++ more) (λ c h. Contains-append_left cs more c h) (opposite k) (r.2 k kin))

-- a log whose last line is empty
pub ends_from : (log : List (List ℤ)) (c : List ℤ) → 0 < length log → c ≡ get_or log (length log - 1) c → length c ≡ 0
    → (earlier : List (List ℤ)) × (log ≡ earlier ++ [] ∷ [])
ends_from log c some is none =
    let lt : length log - 1 < length log = omega arith in
    let n : suc (length log - 1) ≡ length log = omega arith in (
      take (length log - 1) log,
      sym (take-length log) ∙ ap (λ m. take m log) (sym n) ∙ take-suc log (length log - 1) c lt
          ∙ ap (λ z. take (length log - 1) log ++ z ∷ []) (sym is ∙ empty c none),
    )
  where
    empty : (c : List ℤ) → length c ≡ 0 → c ≡ []
    empty [] e = refl
    empty (x ∷ xs) e = absurd (omega arith)

-- and one whose last line is not
pub ends_not : (log : List (List ℤ)) (c : List ℤ) → c ≡ get_or log (length log - 1) c → (length c ≡ 0 → ⊥)
    → (earlier : List (List ℤ)) × (log ≡ earlier ++ [] ∷ []) → ⊥
ends_not log c is some e =
    some (ap length (is ∙ ap (λ z. get_or z (length z - 1) c) e.1 ∙ last_of e.0 c))
  where
    last_of : (xs : List (List ℤ)) (d : List ℤ) → get_or (xs ++ [] ∷ []) (length (xs ++ [] ∷ []) - 1) d ≡ []
    last_of xs d = ap (λ n. get_or (xs ++ [] ∷ []) (n - 1) d) (length-append xs ([] ∷ [])) ∙ at_end (length xs + 1 - 1) (omega arith)
      where
        at_end : (n : ℕ) → n ≡ length xs → get_or (xs ++ [] ∷ []) n d ≡ []
        at_end n e = ap (λ m. get_or (xs ++ [] ∷ []) m d) e ∙ get_or-append_seam xs [] [] d

pub ends_some : (log : List (List ℤ)) → ((earlier : List (List ℤ)) × (log ≡ earlier ++ [] ∷ [])) → 0 < length log
ends_some log e =
    let n : length log ≡ length e.0 + 1 = ap length e.1 ∙ length-append e.0 ([] ∷ []) in
    omega arith
