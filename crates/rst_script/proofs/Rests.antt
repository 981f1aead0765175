-- A list from a place on.
use Rattle.std.proofs.Common.{◌≡◌, ℕ, suc, ◌+◌, ◌<◌, List, ◌∷◌, length, get_or, drop, sym, ap, add-one}
use Rattle.std.proofs.Math.Seq.{drop-cons}

pub next_of : {A : Type 0} (xs : List A) (i : ℕ) (x : A) → i < length xs → x ≡ get_or xs i x → drop i xs ≡ x ∷ drop (i + 1) xs
next_of xs i x h e = rw (add-one, drop-cons xs i x h) (ap (λ first. first ∷ drop (suc i) xs) (sym e))
