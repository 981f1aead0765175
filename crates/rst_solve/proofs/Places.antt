-- One more known place of a path.
use Rattle.std.proofs.Common.{◌≡◌, ◌≢◌, ℕ, zero, suc, ◌+◌, ◌<◌, ◌⊎◌, inl, inr, ℤ, pos, negsuc, Bool, true, false, List, [], ◌∷◌, length, set, get_or, refl, sym, ◌∙◌, subst, ap, arith, add-zero}
use Rattle.std.specs.List.{Contains}
use Rattle.rst_value.specs.declared.tern.Tern.{Tern}
use Rattle.rst_value.specs.declared.tern.Tern.TheVariants.{Zero, One, Unknown}
use Rattle.rst_value.specs.Terns.{known}
use Rattle.rst_clause.specs.Literals.{opposite}
use Rattle.rst_clause.specs.Extension.{literal_of}
use Rattle.rst_clause.specs.Paths.{literals_from, path_literals, LiesIn}
use Rattle.rst_clause.proofs.Members.{Contains-nil, Contains-first, Contains-later, Contains-cons_cases, not_both}

literals-set_from : (n : ℕ) (path : List Tern) (i : ℕ) (b : Bool) → i < length path → get_or path i Unknown ≡ Unknown
    → (k : ℤ) → Contains (literals_from n (set path i (known b))) k → Contains (literals_from n path) k ⊎ (k ≡ literal_of b (n + i))
literals-set_from n [] i b lt u k h = absurd (omega arith)
literals-set_from n (t ∷ path) zero true lt u k h = elim (Contains-cons_cases (pos (suc n)) (literals_from (suc n) path) k h) [
  | inl e ↦ inr (sym e ∙ ap (λ m. pos (suc m)) (sym (add-zero n)))
  | inr j ↦ inl (subst (λ z. Contains (literals_from n (z ∷ path)) k) (sym u) j)
]
literals-set_from n (t ∷ path) zero false lt u k h = elim (Contains-cons_cases (negsuc n) (literals_from (suc n) path) k h) [
  | inl e ↦ inr (sym e ∙ ap (λ m. negsuc m) (sym (add-zero n)))
  | inr j ↦ inl (subst (λ z. Contains (literals_from n (z ∷ path)) k) (sym u) j)
]
literals-set_from n (Zero ∷ path) (suc i) b lt u k h = elim (Contains-cons_cases (negsuc n) (literals_from (suc n) (set path i (known b))) k h) [
  | inl e ↦ inl (subst (λ z. Contains (negsuc n ∷ literals_from (suc n) path) z) e (Contains-first (negsuc n) (literals_from (suc n) path)))
  | inr j ↦ later n path i b k (negsuc n) (literals-set_from (suc n) path i b (omega arith) u k j)
]
  where
    later : (n : ℕ) (path : List Tern) (i : ℕ) (b : Bool) (k x : ℤ) → Contains (literals_from (suc n) path) k ⊎ (k ≡ literal_of b (suc n + i))
        → Contains (x ∷ literals_from (suc n) path) k ⊎ (k ≡ literal_of b (n + suc i))
    later n path i b k x (inl j) = inl (Contains-later x (literals_from (suc n) path) k j)
    later n path i b k x (inr e) = let f : suc n + i ≡ n + suc i = omega arith in inr (e ∙ ap (λ m. literal_of b m) f)
literals-set_from n (One ∷ path) (suc i) b lt u k h = elim (Contains-cons_cases (pos (suc n)) (literals_from (suc n) (set path i (known b))) k h) [
  | inl e ↦ inl (subst (λ z. Contains (pos (suc n) ∷ literals_from (suc n) path) z) e (Contains-first (pos (suc n)) (literals_from (suc n) path)))
  | inr j ↦ later n path i b k (pos (suc n)) (literals-set_from (suc n) path i b (omega arith) u k j)
]
  where
    later : (n : ℕ) (path : List Tern) (i : ℕ) (b : Bool) (k x : ℤ) → Contains (literals_from (suc n) path) k ⊎ (k ≡ literal_of b (suc n + i))
        → Contains (x ∷ literals_from (suc n) path) k ⊎ (k ≡ literal_of b (n + suc i))
    later n path i b k x (inl j) = inl (Contains-later x (literals_from (suc n) path) k j)
    later n path i b k x (inr e) = let f : suc n + i ≡ n + suc i = omega arith in inr (e ∙ ap (λ m. literal_of b m) f)
literals-set_from n (Unknown ∷ path) (suc i) b lt u k h = shifted n path i b k (literals-set_from (suc n) path i b (omega arith) u k h)
  where
    shifted : (n : ℕ) (path : List Tern) (i : ℕ) (b : Bool) (k : ℤ) → Contains (literals_from (suc n) path) k ⊎ (k ≡ literal_of b (suc n + i))
        → Contains (literals_from (suc n) path) k ⊎ (k ≡ literal_of b (n + suc i))
    shifted n path i b k (inl j) = inl j
    shifted n path i b k (inr e) = let f : suc n + i ≡ n + suc i = omega arith in inr (e ∙ ap (λ m. literal_of b m) f)

literals-set_kept : (n : ℕ) (path : List Tern) (i : ℕ) (p : Tern) → get_or path i Unknown ≡ Unknown
    → (k : ℤ) → Contains (literals_from n path) k → Contains (literals_from n (set path i p)) k
literals-set_kept n [] i p u k h = absurd (Contains-nil k h)
literals-set_kept n (t ∷ path) zero p u k h = added p (subst (λ z. Contains (literals_from n (z ∷ path)) k) u h)
  where
    added : (p : Tern) → Contains (literals_from (suc n) path) k → Contains (literals_from n (p ∷ path)) k
    added Zero j = Contains-later (negsuc n) (literals_from (suc n) path) k j
    added One j = Contains-later (pos (suc n)) (literals_from (suc n) path) k j
    added Unknown j = j
literals-set_kept n (Zero ∷ path) (suc i) p u k h = elim (Contains-cons_cases (negsuc n) (literals_from (suc n) path) k h) [
  | inl e ↦ subst (λ z. Contains (negsuc n ∷ literals_from (suc n) (set path i p)) z) e (Contains-first (negsuc n) (literals_from (suc n) (set path i p)))
  | inr j ↦ Contains-later (negsuc n) (literals_from (suc n) (set path i p)) k (literals-set_kept (suc n) path i p u k j)
]
literals-set_kept n (One ∷ path) (suc i) p u k h = elim (Contains-cons_cases (pos (suc n)) (literals_from (suc n) path) k h) [
  | inl e ↦ subst (λ z. Contains (pos (suc n) ∷ literals_from (suc n) (set path i p)) z) e (Contains-first (pos (suc n)) (literals_from (suc n) (set path i p)))
  | inr j ↦ Contains-later (pos (suc n)) (literals_from (suc n) (set path i p)) k (literals-set_kept (suc n) path i p u k j)
]
literals-set_kept n (Unknown ∷ path) (suc i) p u k h = literals-set_kept (suc n) path i p u k h

literals-set_has : (n : ℕ) (path : List Tern) (i : ℕ) (b : Bool) → i < length path → Contains (literals_from n (set path i (known b))) (literal_of b (n + i))
literals-set_has n [] i b lt = absurd (omega arith)
literals-set_has n (t ∷ path) zero true lt = subst (λ m. Contains (pos (suc n) ∷ literals_from (suc n) path) (pos (suc m))) (sym (add-zero n)) (Contains-first (pos (suc n)) (literals_from (suc n) path))
literals-set_has n (t ∷ path) zero false lt = subst (λ m. Contains (negsuc n ∷ literals_from (suc n) path) (negsuc m)) (sym (add-zero n)) (Contains-first (negsuc n) (literals_from (suc n) path))
literals-set_has n (t ∷ path) (suc i) b lt = behind t (literals-set_has (suc n) path i b (omega arith))
  where
    behind : (t : Tern) → Contains (literals_from (suc n) (set path i (known b))) (literal_of b (suc n + i)) → Contains (literals_from n (t ∷ set path i (known b))) (literal_of b (n + suc i))
    behind Zero j = let f : suc n + i ≡ n + suc i = omega arith in Contains-later (negsuc n) _ _ (subst (λ m. Contains (literals_from (suc n) (set path i (known b))) (literal_of b m)) f j)
    behind One j = let f : suc n + i ≡ n + suc i = omega arith in Contains-later (pos (suc n)) _ _ (subst (λ m. Contains (literals_from (suc n) (set path i (known b))) (literal_of b m)) f j)
    behind Unknown j = let f : suc n + i ≡ n + suc i = omega arith in subst (λ m. Contains (literals_from (suc n) (set path i (known b))) (literal_of b m)) f j

zero-plus : (n : ℕ) → 0 + n ≡ n
zero-plus n = omega arith

-- the literals with one more known place: those before, and that of the place
pub place_cases : (path : List Tern) (i : ℕ) (b : Bool) → i < length path → get_or path i Unknown ≡ Unknown
    → (k : ℤ) → Contains (path_literals (set path i (known b))) k → Contains (path_literals path) k ⊎ (k ≡ literal_of b i)
place_cases path i b lt u k h = elim (literals-set_from 0 path i b lt u k h) [ inl j ↦ inl j | inr e ↦ inr (e ∙ ap (λ m. literal_of b m) (zero-plus i)) ]

pub place_kept : (path : List Tern) (i : ℕ) (b : Bool) → get_or path i Unknown ≡ Unknown
    → (k : ℤ) → Contains (path_literals path) k → Contains (path_literals (set path i (known b))) k
place_kept path i b u k h = literals-set_kept 0 path i (known b) u k h

pub place_has : (path : List Tern) (i : ℕ) (b : Bool) → i < length path → Contains (path_literals (set path i (known b))) (literal_of b i)
place_has path i b lt = subst (λ m. Contains (path_literals (set path i (known b))) (literal_of b m)) (zero-plus i) (literals-set_has 0 path i b lt)

-- a path with one more known place lies within the path
pub place_within : (path : List Tern) (i : ℕ) (b : Bool) → get_or path i Unknown ≡ Unknown → (v : ℕ → Bool) → LiesIn v (set path i (known b)) → LiesIn v path
place_within path i b u v h k kin = h k (place_kept path i b u k kin)

literal-opposite : (i : ℕ) → opposite (literal_of false i) ≡ literal_of true i
literal-opposite i = refl

-- the two values of a place don't meet
pub values_apart : (path : List Tern) (i : ℕ) → i < length path → (v : ℕ → Bool) → LiesIn v (set path i (known false)) → LiesIn v (set path i (known true)) → ⊥
values_apart path i lt v p q = not_both v (literal_of false i) (p (literal_of false i) (place_has path i false lt)) (q (literal_of true i) (place_has path i true lt))

-- the place back
pub set-back : (path : List Tern) (i : ℕ) (p : Tern) → i < length path → get_or path i Unknown ≡ Unknown → set (set path i p) i Unknown ≡ path
set-back [] i p lt u = absurd (omega arith)
set-back (t ∷ path) zero p lt u = ap (λ z. z ∷ path) (sym u)
set-back (t ∷ path) (suc i) p lt u = ap (λ z. t ∷ z) (set-back path i p (omega arith) u)

pub known-not_unknown : (b : Bool) → known b ≢ Unknown
known-not_unknown true e = cc
known-not_unknown false e = cc

-- no known place, no literal
pub no_literals : (n : ℕ) (path : List Tern) → ((i : ℕ) → get_or path i Unknown ≡ Unknown) → literals_from n path ≡ []
no_literals n [] h = refl
no_literals n (Zero ∷ path) h = absurd (let e : Zero ≡ Unknown = h 0 in cc)
no_literals n (One ∷ path) h = absurd (let e : One ≡ Unknown = h 0 in cc)
no_literals n (Unknown ∷ path) h = no_literals (suc n) path (λ i. h (suc i))
