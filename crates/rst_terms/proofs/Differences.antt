-- Differences on numbers, in two values: a + ~b + 1.
use Rattle.std.proofs.Common.{◌≡◌, ℕ, ◌+◌, ◌-◌, ◌%◌, ◌^◌, Bool, true, false, not, map, List, length, replicate, arith, sym, ap, ◌∙◌}
use Rattle.std.proofs.lemmas.List.{length-replicate, length-map}
use Rattle.rst_terms.specs.Algebras.{bits}
use Rattle.rst_terms.specs.Recurrences.{summed}
use Rattle.rst_terms.specs.Numbers.{number}
use Rattle.rst_terms.proofs.Places.{inverted_number, number_zeros}
use Rattle.rst_terms.proofs.Sums.{summed_modulo}

less_one : (a b n p : ℕ) → n + b + 1 ≡ p → a + n + 1 ≡ a + (p - b)
less_one a b n p h = omega arith

pub difference_number :
    (xs ys : List Bool) → length xs ≡ length ys
    → number (summed bits tt true xs (map not ys)).bits ≡ (number xs + (2 ^ length xs - number ys)) % 2 ^ length xs
difference_number xs ys h =
    summed_modulo true xs (map not ys) (h ∙ sym (length-map ys not))
    ∙ ap (λ k. k % 2 ^ length xs) (less_one (number xs) (number ys) (number (map not ys)) (2 ^ length xs) (inverted_number ys ∙ ap (λ w. 2 ^ w) (sym h)))

nothing_before : (z n : ℕ) → z ≡ 0 → z + n ≡ n
nothing_before z n h = omega arith

-- the opposite of a number
pub opposite_number :
    (xs : List Bool) → number (summed bits tt true (replicate (length xs) false) (map not xs)).bits ≡ (2 ^ length xs - number xs) % 2 ^ length xs
opposite_number xs =
    difference_number (replicate (length xs) false) xs (length-replicate (length xs) false)
    ∙ (ap (λ w. (number (replicate (length xs) false) + (2 ^ w - number xs)) % 2 ^ w) (length-replicate (length xs) false)
    ∙ ap (λ n. n % 2 ^ length xs) (nothing_before (number (replicate (length xs) false)) (2 ^ length xs - number xs) (number_zeros (length xs))))
