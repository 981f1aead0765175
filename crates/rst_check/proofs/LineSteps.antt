-- One line of a log: the opposites of its literals on the trail, and what propagation finds from them.
use Rattle.std.proofs.Common.{◌≡◌, ℕ, ◌+◌, ◌<◌, inl, inr, ℤ, List, [], ◌∷◌, ◌++◌, length, take, get_or, refl, sym, ◌∙◌, subst, ap, append-nil, add-one}
use Rattle.std.specs.List.{Contains}
use Rattle.std.proofs.Math.Seq.{take-suc}
use Rattle.std.proofs.lemmas.List.Elements.{Contains-get_or, Contains-push, Contains-push_cases, Contains-append_left, Contains-append_right, Contains-append_cases}
use Rattle.rst_clause.specs.Literals.{opposite}
use Rattle.rst_clause.specs.Propagation.{Derived, units_against, Follows, AllDerived}
use Rattle.rst_clause.specs.Propagation.Derived.{unit}
use Rattle.rst_clause.specs.Trails.Grows.{same}
use Rattle.rst_clause.specs.Queue.{IsFalseAt}
use Rattle.rst_clause.specs.Trails.{Trail', pushed, Grows, IsComplete, IsQuiet, IsConsistent, AllFalse}
use Rattle.rst_clause.proofs.Members.{Contains-nil, Contains-first, Contains-one, Contains-map, Contains-from_map, opposite-opposite}
use Rattle.rst_clause.proofs.Extending.{derived_more}
use Rattle.rst_clause.proofs.Queueing.{Grows-join}
use Rattle.rst_clause.proofs.Grown.{grown_derived, false_closes, complete_open, Continues, continues_more, continues_take, grown_continues, continues_has}
use Rattle.rst_watch.specs.Propagators.{Propagator', IsSettled}
use Rattle.rst_check.specs.Lines.{HasFalse, IsGrown, IsLonger, IsBack}

-- the trail continues the old one by the opposites of these literals, and all that stands is implied by the
-- clauses with the line's literals false
pub record Assumed (cs : List (List ℤ)) (old : Trail') (done line : List ℤ) (trail : Trail') : Type 0 where
  pub vars : trail.vars ≡ old.vars
  pub continues : Continues old.lits trail.lits
  pub against : (k : ℤ) → Contains done k → Contains trail.lits (opposite k)
  pub derived : AllDerived (units_against line ++ cs) trail.lits

pub assumed_start : (cs : List (List ℤ)) (t : Trail') (line : List ℤ) → AllDerived cs t.lits → Assumed cs t (take 0 line) line t
assumed_start cs t line d = record {
  vars = refl;
  continues = ([], sym (append-nil t.lits));
  against = λ k h. absurd (Contains-nil k h);
  derived = λ k h. derived_more cs (units_against line ++ cs) (λ c i. Contains-append_right (units_against line) cs c i) k (d k h);
}

-- the opposite of a literal of the line is derived
against_derived : (cs : List (List ℤ)) (line : List ℤ) (j : ℤ) → Contains line j → Derived (units_against line ++ cs) (opposite j)
against_derived cs line j h =
    unit (opposite j ∷ []) (opposite j)
    (Contains-append_left (units_against line) cs (opposite j ∷ []) (Contains-map (λ l. opposite l ∷ []) line j h))
    (Contains-first (opposite j) [])
    (λ k kin ne. absurd (ne (sym (Contains-one (opposite j) k kin))))

-- a clause that is false after propagation
pub found_follows : (cs : List (List ℤ)) (old : Trail') (done line : List ℤ) (s t : Trail') (i : ℕ) → Assumed cs old done line s
    → Grows cs s t → i < length cs → AllFalse t.lits (get_or cs i []) → Follows cs line
found_follows cs old done line s t i st g lt f =
    false_closes (units_against line ++ cs) t.lits (get_or cs i [])
    (Contains-append_right (units_against line) cs (get_or cs i []) (Contains-get_or cs i [] lt))
    (grown_derived cs (units_against line ++ cs) s t (λ c h. Contains-append_right (units_against line) cs c h) g st.derived)
    f

grown_has : (cs : List (List ℤ)) (s t : Trail') → Grows cs s t → (k : ℤ) → Contains s.lits k → Contains t.lits k
grown_has cs s t g k h = continues_has s.lits t.lits (grown_continues cs s.lits s t g ([], sym (append-nil s.lits))) k h

-- nothing is false after propagation
pub none_follows : (cs : List (List ℤ)) (old : Trail') (line : List ℤ) (s t : Trail') → Assumed cs old line line s
    → Grows cs s t → IsConsistent t.lits → IsComplete t.lits cs → Follows cs line → ⊥
none_follows cs old line s t st g con q = complete_open (units_against line ++ cs) t.lits (λ c h.
    elim (Contains-append_cases (units_against line) cs c h) [
      | inr i ↦ q c i
      | inl i ↦
          let r : (j : ℤ) × Contains line j × (c ≡ opposite j ∷ []) = Contains-from_map (λ l. opposite l ∷ []) line c i in
          let stands : Contains t.lits (opposite r.0) = grown_has cs s t g (opposite r.0) (st.against r.0 r.1) in
          subst (λ z. IsQuiet t.lits z) (sym r.2) (record {
            not_false = λ f. con (opposite r.0) stands (f (opposite r.0) (Contains-first (opposite r.0) []));
            implied = λ l lin b. subst (λ z. Contains t.lits z) (Contains-one (opposite r.0) l lin) stands;
          })
    ])

-- a line with a literal that stands
pub stands_follows : (cs : List (List ℤ)) (old : Trail') (done line : List ℤ) (t : Trail') (l : ℤ) → Assumed cs old done line t
    → Contains line l → Contains t.lits l → Follows cs line
stands_follows cs old done line t l s lin h = (
  opposite l ∷ [],
  Contains-append_left (units_against line) cs (opposite l ∷ []) (Contains-map (λ z. opposite z ∷ []) line l lin),
  λ k kin. subst (λ z. Derived (units_against line ++ cs) z) (sym (ap opposite (sym (Contains-one (opposite l) k kin)) ∙ opposite-opposite l))
      (s.derived l h),
)

-- the loop over the line: the clauses and levels are as they were
pub record Assuming (old : Propagator') (done line : List ℤ) (p : Propagator') : Type 0 where
  pub clauses : p.clauses ≡ old.clauses
  pub floors : p.floors ≡ old.floors
  pub assumed : Assumed old.clauses old.trail done line p.trail

pub assuming_longer : (old : Propagator') (done line : List ℤ) (p : Propagator') → Assuming old done line p → IsLonger old p
assuming_longer old done line p a = record {
  clauses = a.clauses;
  floors = a.floors;
  vars = a.assumed.vars;
  more = a.assumed.continues.0;
  lits = a.assumed.continues.1;
}

pub grown_longer : (old : Propagator') (done line : List ℤ) (p n : Propagator') → Assuming old done line p → Grows old.clauses p.trail n.trail → n.trail.vars ≡ p.trail.vars
    → n.clauses ≡ p.clauses → n.floors ≡ p.floors → IsLonger old n
grown_longer old done line p n a g v e f =
    let c : Continues old.trail.lits n.trail.lits = grown_continues old.clauses old.trail.lits p.trail n.trail g a.assumed.continues in
    record { clauses = e ∙ a.clauses; floors = f ∙ a.floors; vars = v ∙ a.assumed.vars; more = c.0; lits = c.1 }

-- a level's beginning, what it added, and the way back
pub taken_back : (old opened longer back : Propagator') → opened.floors ≡ length old.trail.lits ∷ old.floors → opened.clauses ≡ old.clauses → opened.trail ≡ old.trail
    → IsLonger opened longer
    → ((m : ℕ) (rest : List ℕ) → longer.floors ≡ m ∷ rest → back.trail.lits ≡ take m longer.trail.lits)
    → ((m : ℕ) (rest : List ℕ) → longer.floors ≡ m ∷ rest → back.floors ≡ rest)
    → ((m : ℕ) (rest : List ℕ) → longer.floors ≡ m ∷ rest → IsSettled back)
    → back.trail.vars ≡ longer.trail.vars → back.clauses ≡ longer.clauses → IsBack old back
taken_back old opened longer back fo eo to l lits floors settled v e =
    let f : longer.floors ≡ length old.trail.lits ∷ old.floors = l.floors ∙ fo in
    let before : opened.trail.lits ≡ old.trail.lits = ap (λ (t : Trail'). t.lits) to in
    record {
      clauses = e ∙ l.clauses ∙ eo;
      floors = floors (length old.trail.lits) old.floors f;
      vars = v ∙ l.vars ∙ ap (λ (t : Trail'). t.vars) to;
      lits = lits (length old.trail.lits) old.floors f ∙ continues_take old.trail.lits longer.trail.lits (l.more, l.lits ∙ ap (λ z. z ++ l.more) before);
      settled = settled (length old.trail.lits) old.floors f;
    }

module _ (cs : List (List ℤ)) (old : Trail') (line : List ℤ) (i : ℕ) (l : ℤ) (t : Trail') (lt : i < length line) (is : l ≡ get_or line i l) where
  more_line : take (i + 1) line ≡ take i line ++ l ∷ []
  more_line = rw add-one (take-suc line i l lt ∙ ap (λ z. take i line ++ z ∷ []) (sym is))

  pub line_has : Contains line l
  line_has = subst (λ z. Contains line z) (sym is) (Contains-get_or line i l lt)

  pub assumed_there : Assumed cs old (take i line) line t → Contains t.lits (opposite l) → Assumed cs old (take (i + 1) line) line t
  assumed_there s h = record {
    vars = s.vars;
    continues = s.continues;
    against = subst (λ z. (k : ℤ) → Contains z k → Contains t.lits (opposite k)) (sym more_line) (λ k kin.
        elim (Contains-push_cases (take i line) l k kin) [ inl j ↦ s.against k j | inr e ↦ subst (λ z. Contains t.lits (opposite z)) e h ]);
    derived = s.derived;
  }

  pub assumed_pushed : (r : ℕ) → Assumed cs old (take i line) line t → Assumed cs old (take (i + 1) line) line (pushed t (opposite l) r)
  assumed_pushed r s = record {
    vars = s.vars;
    continues = continues_more old.lits t.lits (opposite l) s.continues;
    against = subst (λ z. (k : ℤ) → Contains z k → Contains (t.lits ++ opposite l ∷ []) (opposite k)) (sym more_line) (λ k kin.
        elim (Contains-push_cases (take i line) l k kin) [
          | inl j ↦ Contains-append_left t.lits (opposite l ∷ []) (opposite k) (s.against k j)
          | inr e ↦ subst (λ z. Contains (t.lits ++ opposite l ∷ []) (opposite z)) e (Contains-push t.lits (opposite l))
        ]);
    derived = λ k kin. elim (Contains-push_cases t.lits (opposite l) k kin) [
      | inl j ↦ s.derived k j
      | inr e ↦ subst (λ z. Derived (units_against line ++ cs) z) e (against_derived cs line l line_has)
    ];
  }

-- more stands, and more again
pub grown_more : (a b c : Propagator') → IsGrown a b → Grows b.clauses b.trail c.trail → c.trail.vars ≡ b.trail.vars → c.clauses ≡ b.clauses → c.floors ≡ b.floors
    → IsGrown a c
grown_more a b c g step v e f = record {
  clauses = e ∙ g.clauses;
  floors = f ∙ g.floors;
  vars = v ∙ g.vars;
  grows = Grows-join a.clauses a.trail b.trail c.trail g.grows (subst (λ z. Grows z b.trail c.trail) g.clauses step);
}

-- the clauses of some hints were looked at
pub assuming_grown : (old : Propagator') (done line : List ℤ) (p n : Propagator') → Assuming old done line p → IsGrown p n → Assuming old done line n
assuming_grown old done line p n a g =
    let step : Grows old.clauses p.trail n.trail = subst (λ z. Grows z p.trail n.trail) a.clauses g.grows in
    record {
      clauses = g.clauses ∙ a.clauses;
      floors = g.floors ∙ a.floors;
      assumed = record {
        vars = g.vars ∙ a.assumed.vars;
        continues = grown_continues old.clauses old.trail.lits p.trail n.trail step a.assumed.continues;
        against = λ k h. grown_has old.clauses p.trail n.trail step (opposite k) (a.assumed.against k h);
        derived = grown_derived old.clauses (units_against line ++ old.clauses) p.trail n.trail
            (λ c h. Contains-append_right (units_against line) old.clauses c h) step a.assumed.derived;
      };
    }

-- and one of them is false
pub hinted_follows : (old : Propagator') (done line : List ℤ) (p n : Propagator') → Assuming old done line p → IsGrown p n → HasFalse p.clauses n.trail.lits
    → Follows old.clauses line
hinted_follows old done line p n a g f =
    let at : IsFalseAt old.clauses n.trail.lits f.0 = subst (λ (z : List (List ℤ)). IsFalseAt z n.trail.lits f.0) a.clauses f.1 in
    found_follows old.clauses old.trail done line n.trail n.trail f.0 (assuming_grown old done line p n a g).assumed same at.0 at.1
