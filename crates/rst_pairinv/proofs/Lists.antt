-- One more element at the end of a list, and lists behind others.
use Rattle.std.proofs.Common.{◌≡◌, ℕ, zero, suc, ◌<◌, ◌+◌, ◌⊎◌, inl, inr, List, [], ◌∷◌, ◌++◌, length, get_or, take, ap, sym, subst, arith, length-append}
use Rattle.std.proofs.Math.Seq.{take-append_seam, get_or-append_seam}
use Rattle.std.proofs.lemmas.List.{take-append-le, get_or_append_left}
use Rattle.rst_pair.proofs.Loops.{last_or_before}

pub at_both : {A B : Type 0} (P : A → B → Type 0) (a b : A) (x y : B) → a ≡ b → x ≡ y → P b y → P a x
at_both P a b x y e f h = subst (λ z. P z x) (sym e) (subst (P b) (sym f) h)

-- what holds of each element behind those before it holds with one more
pub each_more :
    {A : Type 0} (P : List A → A → Type 0) (xs xs' : List A) (x : A) → xs' ≡ xs ++ x ∷ []
    → ((i : ℕ) (d : A) → i < length xs → P (take i xs) (get_or xs i d)) → P xs x
    → (i : ℕ) (d : A) → i < length xs' → P (take i xs') (get_or xs' i d)
each_more {A} P xs xs' x e h here i d below =
    let below' : i < length xs + 1 = omega (arith, below, ap length e, length-append xs (x ∷ [])) in
    subst (λ (z : List A). P (take i z) (get_or z i d)) (sym e)
    (elim (last_or_before i (length xs) below') [
      | inl b ↦ at_both P _ _ _ _ (take-append-le i xs (x ∷ []) (omega (arith, b))) (get_or_append_left xs (x ∷ []) d i b) (h i d b)
      | inr last ↦ subst (λ (k : ℕ). P (take k (xs ++ x ∷ [])) (get_or (xs ++ x ∷ []) k d)) (sym last)
          (at_both P _ _ _ _ (take-append_seam xs (x ∷ [])) (get_or-append_seam xs x [] d) here)
    ])

-- the place is below n, or so many behind it
pub below_or_behind : (n i : ℕ) → (i < n) ⊎ ((k : ℕ) × (i ≡ n + k))
below_or_behind zero i = inr (i, omega arith)
below_or_behind (suc n) zero = inl (omega arith)
below_or_behind (suc n) (suc i) = elim (below_or_behind n i) [
  | inl b ↦ inl (omega (arith, b))
  | inr r ↦ inr (r.0, omega (arith, r.1))
]
