-- Sums on numbers, in two values.
use Rattle.std.proofs.Common.{◌≡◌, ℕ, suc, ◌+◌, ◌*◌, ◌%◌, ◌^◌, Bool, true, false, List, [], ◌∷◌, length, arith, refl, ap}
use Rattle.std.proofs.Math.Nat.{pow-suc}
use Rattle.rst_terms.specs.Algebras.{bits}
use Rattle.rst_terms.specs.Recurrences.{Added, added, summed}
use Rattle.rst_terms.specs.Numbers.{digit, number}
use Rattle.rst_terms.proofs.Places.{number_below, modulo_of}

added_digits :
    (a b c : Bool) → digit (added bits tt a b c).bit + 2 * digit (added bits tt a b c).carry ≡ digit a + digit b + digit c
unfolding added
added_digits true true true = refl
added_digits true true false = refl
added_digits true false true = refl
added_digits true false false = refl
added_digits false true true = refl
added_digits false true false = refl
added_digits false false true = refl
added_digits false false false = refl

-- one more place at the low end of a sum
sum_step :
    (n d e z r x y u v c : ℕ) → d + 2 * e ≡ x + y + c → r + 2 ^ n * z ≡ u + v + e
    → (d + 2 * r) + 2 ^ suc n * z ≡ (x + 2 * u) + (y + 2 * v) + c
sum_step n d e z r x y u v c h k = rw (pow-suc 2 n) (omega arith)

pub summed_number :
    (c : Bool) (xs ys : List Bool) → length xs ≡ length ys
    → number (summed bits tt c xs ys).bits + 2 ^ length xs * digit (summed bits tt c xs ys).carry ≡ number xs + number ys + digit c
summed_number c [] [] h = omega arith
summed_number c [] (y ∷ ys) h = absurd (omega arith)
summed_number c (x ∷ xs) [] h = absurd (omega arith)
summed_number c (x ∷ xs) (y ∷ ys) h =
    let d : Added (Unit {0}) Bool = added bits tt x y c in
    sum_step (length xs) (digit d.bit) (digit d.carry) (digit (summed bits tt d.carry xs ys).carry)
    (number (summed bits tt d.carry xs ys).bits) (digit x) (digit y) (number xs) (number ys) (digit c)
    (added_digits x y c) (summed_number d.carry xs ys (omega arith))

pub summed_width : (c : Bool) (xs ys : List Bool) → length xs ≡ length ys → length (summed bits tt c xs ys).bits ≡ length xs
summed_width c [] [] h = refl
summed_width c [] (y ∷ ys) h = absurd (omega arith)
summed_width c (x ∷ xs) [] h = absurd (omega arith)
summed_width c (x ∷ xs) (y ∷ ys) h = ap suc (summed_width (added bits tt x y c).carry xs ys (omega arith))

pub summed_modulo :
    (c : Bool) (xs ys : List Bool) → length xs ≡ length ys
    → number (summed bits tt c xs ys).bits ≡ (number xs + number ys + digit c) % 2 ^ length xs
summed_modulo c xs ys h =
    let below = number_below (summed bits tt c xs ys).bits in
    let width = summed_width c xs ys h in
    modulo_of (number (summed bits tt c xs ys).bits) (2 ^ length xs) (digit (summed bits tt c xs ys).carry) (number xs + number ys + digit c)
    (rw width at below) (summed_number c xs ys h)
