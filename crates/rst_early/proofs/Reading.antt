-- Items that are read from two lists at one place.
use Rattle.std.proofs.Common.{◌≡◌, ◌∙◌, ℕ, zero, suc, ◌<◌, Bool, true, false, not, List, [], ◌∷◌, length, slice_index_or, refl, ap, sym, arith}

get_any : (xs : List (List Bool)) (i : ℕ) (d e : List Bool) → i < length xs → slice_index_or xs i d ≡ slice_index_or xs i e
get_any [] i d e below = absurd (omega (arith, below))
get_any (x ∷ xs) zero d e below = refl
get_any (x ∷ xs) (suc i) d e below = get_any xs i d e (omega (arith, below))

pub read_same :
    (xs ys : List (List Bool)) (i : ℕ) (x y : List Bool) → i < length xs → xs ≡ ys → x ≡ slice_index_or xs i x → y ≡ slice_index_or ys i y
    → x ≡ y
read_same xs ys i x y below same is_x is_y =
    is_x ∙ get_any xs i x y below ∙ ap (λ (zs : List (List Bool)). slice_index_or zs i y) same ∙ sym is_y

pub not_true : (b : Bool) → not b ≡ true → b ≡ true → ⊥
not_true true e f = let g : false ≡ true = e in absurd (cc)
not_true false e f = let g : false ≡ true = f in absurd (cc)
