-- Facts on each element, by place and by recursion.
use Rattle.std.proofs.Common.{ℕ, zero, suc, ◌<◌, List, [], ◌∷◌, length, get_or, arith}
use Rattle.std.specs.List.{AllByRecursion}

pub each_is : {X : Type 0} (P : X → Type 0) (xs : List X) → ((i : ℕ) (d : X) → i < length xs → P (get_or xs i d)) → AllByRecursion P xs
each_is P [] h = tt
each_is P (x ∷ xs) h = (h 0 x (omega arith), each_is P xs (λ i d lt. h (suc i) d (omega arith)))

pub each_at : {X : Type 0} (P : X → Type 0) (xs : List X) → AllByRecursion P xs → (i : ℕ) (d : X) → i < length xs → P (get_or xs i d)
each_at P [] h i d lt = absurd (omega arith)
each_at P (x ∷ xs) h zero d lt = h.0
each_at P (x ∷ xs) h (suc i) d lt = each_at P xs h.1 i d (omega arith)
