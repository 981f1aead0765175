-- Clauses stay guarded.
use Rattle.std.proofs.Common.{◌≡◌, ◌≢◌, ℕ, ◌+◌, ◌<◌, inl, inr, ℤ, pos, List, length, take, get_or, refl, sym, ◌∙◌, subst, ap}
use Rattle.std.specs.List.{Contains}
use Rattle.std.proofs.Math.Seq.{take-length}
use Rattle.std.proofs.lemmas.List.{take_more}
use Rattle.std.proofs.lemmas.List.Elements.{Contains-push_cases}
use Rattle.rst_clause.specs.Literals.{opposite}
use Rattle.rst_clause.specs.Trails.{IsConsistent, IsQuiet}
use Rattle.rst_clause.proofs.Members.{same_or_not, opposite-opposite}
use Rattle.rst_clause.proofs.Queueing.{quiet_standing}
use Rattle.rst_watch.specs.Looks.{NotFalse, HasTrue}
use Rattle.rst_watch.specs.declared.state.Watch.{Watch}
use Rattle.rst_watch.specs.Watching.{IsPoint, IsNoted, IsGuarded, IsOf, Watches}
use Rattle.rst_watch.proofs.Points.{Covers}

pub true_more : (s s' c : List ℤ) → ((k : ℤ) → Contains s k → Contains s' k) → HasTrue s c → HasTrue s' c
true_more s s' c more h = (h.0, h.1, more h.0 h.2)

-- at other points
pub guarded_at : (New Old : List ℤ → List ℤ → Type 0) (lists : List (List ℕ)) (c : List ℤ) (i : ℕ) (w : Watch) → Covers New Old
    → IsGuarded Old lists c i w → IsGuarded New lists c i w
guarded_at New Old lists c i w covers g = record {
  has_first = g.has_first;
  has_second = g.has_second;
  pair = elim g.pair [
    | inl p ↦ inl p
    | inr all ↦ inr (λ s' p' at. let r = covers s' p' at in true_more r.0 s' c r.3 (all r.0 r.1 r.2))
  ];
  fine = λ s' p' at.
      let r = covers s' p' at in
      elim (g.fine r.0 r.1 r.2) [
        | inl h ↦ inl (true_more r.0 s' c r.3 h)
        | inr n ↦ inr ((λ h. n.0 (r.4 (opposite w.first) h)), (λ h. n.1 (r.4 (opposite w.second) h)))
      ];
}

-- with other lists
pub guarded_with : (At : List ℤ → List ℤ → Type 0) (old new : List (List ℕ)) (c : List ℤ) (i : ℕ) (w : Watch)
    → (IsNoted old w.first i → IsNoted new w.first i) → (IsNoted old w.second i → IsNoted new w.second i)
    → IsGuarded At old c i w → IsGuarded At new c i w
guarded_with At old new c i w first second g = record {
  has_first = g.has_first;
  has_second = g.has_second;
  pair = elim g.pair [
    | inl p ↦ inl (record { differ = p.differ; first = first p.first; second = second p.second })
    | inr all ↦ inr all
  ];
  fine = g.fine;
}

-- with another literal in the place of one
pub guarded_moved : (At : List ℤ → List ℤ → Type 0) (old new : List (List ℕ)) (c : List ℤ) (i : ℕ) (w : Watch) (l other k : ℤ)
    → IsOf w l other → Contains c k → k ≢ other → ((s p : List ℤ) → At s p → NotFalse p k) → IsNoted new k i
    → (IsNoted old other i → IsNoted new other i) → IsGuarded At old c i w → IsGuarded At new c i (record { first = k; second = other })
guarded_moved At old new c i w l other k of has ne open' noted keeps g = record {
  has_first = has;
  has_second = elim of [
    | inl e ↦ subst (λ z. Contains c z) e.1 g.has_second
    | inr e ↦ subst (λ z. Contains c z) e.0 g.has_first
  ];
  pair = elim g.pair [
    | inl p ↦ inl (record {
      differ = ne;
      first = noted;
      second = keeps (elim of [ inl e ↦ subst (λ z. IsNoted old z i) e.1 p.second | inr e ↦ subst (λ z. IsNoted old z i) e.0 p.first ]);
    })
    | inr all ↦ inr all
  ];
  fine = λ s p at. elim (g.fine s p at) [
    | inl h ↦ inl h
    | inr n ↦ inr (
      open' s p at,
      elim of [ inl e ↦ subst (λ z. NotFalse p z) e.1 n.1 | inr e ↦ subst (λ z. NotFalse p z) e.0 n.0 ],
    )
  ];
}

-- the other watched literal is one of the clause
pub other_in : (At : List ℤ → List ℤ → Type 0) (lists : List (List ℕ)) (c : List ℤ) (i : ℕ) (w : Watch) (l other : ℤ) → IsOf w l other
    → IsGuarded At lists c i w → Contains c other
other_in At lists c i w l other of g = elim of [
  | inl e ↦ subst (λ z. Contains c z) e.1 g.has_second
  | inr e ↦ subst (λ z. Contains c z) e.0 g.has_first
]

quiet_open : (t c : List ℤ) (u l : ℤ) → u ≢ l → Contains c u → Contains c l → NotFalse t u → NotFalse t l → IsQuiet t c
quiet_open t c u l ne uin lin nu nl = record {
  not_false = λ f. nu (f u uin);
  implied = λ k kin f. elim (same_or_not l k) [
    | inl e ↦ absurd (nu (f u uin (λ g. ne (g ∙ sym e))))
    | inr d ↦ absurd (nl (f l lin d))
  ];
}

-- where all that stands was propagated, a guarded clause is quiet
pub guarded_quiet : (t : List ℤ) (n : ℕ) (floors : List ℕ) (lists : List (List ℕ)) (c : List ℤ) (i : ℕ) (w : Watch) → n ≡ length t → IsConsistent t
    → IsGuarded (IsPoint t n floors) lists c i w → IsQuiet t c
guarded_quiet t n floors lists c i w e con g =
    let all : take n t ≡ t = ap (λ z. take z t) e ∙ take-length t in
    elim (g.fine t (take n t) (inl (refl, refl))) [
      | inl h ↦ quiet_standing t c h.0 con h.1 h.2
      | inr n ↦ elim g.pair [
        | inl p ↦ quiet_open t c w.first w.second p.differ g.has_first g.has_second (subst (λ z. NotFalse z w.first) all n.0) (subst (λ z. NotFalse z w.second) all n.1)
        | inr every ↦ let h = every t (take _ t) (inl (refl, refl)) in quiet_standing t c h.0 con h.1 h.2
      ]
    ]

not_false_next : (t : List ℤ) (n : ℕ) (a l : ℤ) → n < length t → get_or t n (pos 0) ≡ opposite a → l ≢ a → NotFalse (take n t) l → NotFalse (take (n + 1) t) l
not_false_next t n a l lt is ne before h =
    elim (Contains-push_cases (take n t) (get_or t n (pos 0)) (opposite l) (subst (λ z. Contains z (opposite l)) (take_more t n (pos 0) lt) h)) [
      | inl j ↦ before j
      | inr e ↦ ne (sym (sym (opposite-opposite a) ∙ ap opposite (sym is ∙ e) ∙ opposite-opposite l))
    ]

-- one more literal was propagated, and the clauses that watch it hold
pub guarded_next : (t : List ℤ) (n : ℕ) (floors : List ℕ) (lists : List (List ℕ)) (c : List ℤ) (i : ℕ) (w : Watch) (a : ℤ) → n < length t
    → get_or t n (pos 0) ≡ opposite a → (Watches w a → HasTrue t c) → IsGuarded (IsPoint t n floors) lists c i w
    → IsGuarded (IsPoint t (n + 1) floors) lists c i w
guarded_next t n floors lists c i w a lt is holds g = record {
  has_first = g.has_first;
  has_second = g.has_second;
  pair = elim g.pair [
    | inl p ↦ inl p
    | inr all ↦ inr (λ s p at. elim at [
      | inl e ↦ subst (λ z. HasTrue z c) (sym e.0) (all t (take n t) (inl (refl, refl)))
      | inr f ↦ all s p (inr f)
    ])
  ];
  fine = λ s p at. elim at [
    | inl e ↦ elim (g.fine t (take n t) (inl (refl, refl))) [
      | inl h ↦ inl (subst (λ z. HasTrue z c) (sym e.0) h)
      | inr open' ↦ elim (same_or_not w.first a) [
        | inl same ↦ inl (subst (λ z. HasTrue z c) (sym e.0) (holds (inl same)))
        | inr first ↦ elim (same_or_not w.second a) [
          | inl same ↦ inl (subst (λ z. HasTrue z c) (sym e.0) (holds (inr same)))
          | inr second ↦ inr (
            subst (λ z. NotFalse z w.first) (sym e.1) (not_false_next t n a w.first lt is first open'.0),
            subst (λ z. NotFalse z w.second) (sym e.1) (not_false_next t n a w.second lt is second open'.1),
          )
        ]
      ]
    ]
    | inr f ↦ g.fine s p (inr f)
  ];
}
