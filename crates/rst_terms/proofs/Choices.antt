-- Choices of words, in two values.
use Rattle.std.proofs.Common.{◌≡◌, ℕ, Bool, true, false, List, [], ◌∷◌, length, cond, arith, refl, ap}
use Rattle.rst_terms.specs.Algebras.{bits}
use Rattle.rst_terms.specs.Recurrences.{chosen}

pub chosen_bits : (c : Bool) (xs ys : List Bool) → length xs ≡ length ys → (chosen bits tt c xs ys).1 ≡ cond c xs ys
chosen_bits true [] [] h = refl
chosen_bits false [] [] h = refl
chosen_bits c [] (y ∷ ys) h = absurd (omega arith)
chosen_bits c (x ∷ xs) [] h = absurd (omega arith)
chosen_bits true (x ∷ xs) (y ∷ ys) h = ap (λ zs. x ∷ zs) (chosen_bits true xs ys (omega arith))
chosen_bits false (x ∷ xs) (y ∷ ys) h = ap (λ zs. y ∷ zs) (chosen_bits false xs ys (omega arith))

pub cond_length : (n : Bool) (xs ys : List Bool) (k : ℕ) → length xs ≡ k → length ys ≡ k → length (cond n xs ys) ≡ k
cond_length true xs ys k p q = p
cond_length false xs ys k p q = q
