-- The loop over one clause's literals.
use Rattle.std.proofs.Common.{◌≡◌, ◌≢◌, ℕ, ◌+◌, ◌<◌, inl, inr, ℤ, List, [], ◌∷◌, ◌++◌, length, take, get_or, sym, ◌∙◌, subst, ap, Option, Some, None, add-one}
use Rattle.std.proofs.Math.Seq.{take-suc}
use Rattle.std.specs.List.{Contains}
use Rattle.std.proofs.lemmas.List.Elements.{Contains-push_cases, Contains-push, Contains-append_left, Contains-get_or}
use Rattle.rst_clause.specs.Literals.{opposite}
use Rattle.rst_clause.specs.Trails.{IsConsistent, AllFalse, IsUnit, IsQuiet}
use Rattle.rst_clause.proofs.Members.{same_or_not, Contains-nil}

-- of the clause's first literals all are false, but for the open one
abbrev pub SoFar : List ℤ → List ℤ → Option ℤ → Type 0
SoFar t c None = AllFalse t c
SoFar t c (Some l) = IsUnit t c l

pub so_far_start : (t c : List ℤ) → SoFar t (take 0 c) None
so_far_start t c = λ k h. absurd (Contains-nil k h)

module _ (t c : List ℤ) (i : ℕ) (l : ℤ) (lt : i < length c) (is : l ≡ get_or c i l) where
  one_more : take (i + 1) c ≡ take i c ++ l ∷ []
  one_more = rw add-one (take-suc c i l lt ∙ ap (λ z. take i c ++ z ∷ []) (sym is))

  -- a false literal
  pub so_far_false : (o : Option ℤ) → Contains t (opposite l) → SoFar t (take i c) o → SoFar t (take (i + 1) c) o
  so_far_false None f s = subst (λ z. AllFalse t z) (sym one_more) (λ k h. elim (Contains-push_cases (take i c) l k h) [
    | inl j ↦ s k j
    | inr e ↦ subst (λ z. Contains t (opposite z)) e f
  ])
  so_far_false (Some u) f s = subst (λ z. IsUnit t z u) (sym one_more) (record {
    has = Contains-append_left (take i c) (l ∷ []) u s.has;
    others = λ k h ne. elim (Contains-push_cases (take i c) l k h) [
      | inl j ↦ s.others k j ne
      | inr e ↦ subst (λ z. Contains t (opposite z)) e f
    ];
    not_there = s.not_there;
    not_opposite = s.not_opposite;
  })

  -- the first open literal
  pub so_far_open : (Contains t l → ⊥) → (Contains t (opposite l) → ⊥) → SoFar t (take i c) None → SoFar t (take (i + 1) c) (Some l)
  so_far_open no1 no2 s = subst (λ z. IsUnit t z l) (sym one_more) (record {
    has = Contains-push (take i c) l;
    others = λ k h ne. elim (Contains-push_cases (take i c) l k h) [ inl j ↦ s k j | inr e ↦ absurd (ne (sym e)) ];
    not_there = no1;
    not_opposite = no2;
  })

  -- the open literal once more
  pub so_far_again : (u : ℤ) → u ≡ l → SoFar t (take i c) (Some u) → SoFar t (take (i + 1) c) (Some u)
  so_far_again u e s = subst (λ z. IsUnit t z u) (sym one_more) (record {
    has = Contains-append_left (take i c) (l ∷ []) u s.has;
    others = λ k h ne. elim (Contains-push_cases (take i c) l k h) [
      | inl j ↦ s.others k j ne
      | inr f ↦ absurd (ne (sym f ∙ sym e))
    ];
    not_there = s.not_there;
    not_opposite = s.not_opposite;
  })

  in_clause : Contains c l
  in_clause = subst (λ z. Contains c z) (sym is) (Contains-get_or c i l lt)

  -- a literal that holds
  pub quiet_true : IsConsistent t → Contains t l → IsQuiet t c
  quiet_true cons has = record {
    not_false = λ f. cons l has (f l in_clause);
    implied = λ k kin f. elim (same_or_not l k) [
      | inl e ↦ subst (λ z. Contains t z) e has
      | inr ne ↦ absurd (cons l has (f l in_clause ne))
    ];
  }

  -- two open literals
  pub quiet_two : (u : ℤ) → u ≢ l → Contains c u → (Contains t (opposite u) → ⊥) → (Contains t (opposite l) → ⊥) → IsQuiet t c
  quiet_two u ne uin no1 no2 = record {
    not_false = λ f. no1 (f u uin);
    implied = λ k kin f. elim (same_or_not l k) [
      | inl e ↦ absurd (no1 (f u uin (λ g. ne (g ∙ sym e))))
      | inr d ↦ absurd (no2 (f l in_clause d))
    ];
  }
