-- Lists of bits turned around: the number that they spell, and their bits.
use Rattle.std.proofs.Common.{◌≡◌, ◌∙◌, ℕ, zero, suc, ◌+◌, ◌-◌, ◌*◌, ◌/◌, ◌%◌, ◌^◌, ◌<◌, Bool, true, false, List, [], ◌∷◌, ◌++◌, length, eqb, arith, refl, sym, ap, append_assoc}
use Rattle.std.proofs.lemmas.List.{length-append}
use Rattle.std.proofs.lemmas.Nat.Bits.{bit_at_cat_low, bit_at_cat_high}
use Rattle.rst_terms.specs.Numbers.{digit, number}
use Rattle.rst_terms.proofs.Places.{number_below, number_append}
use Rattle.rst_cycle.specs.Bits.{has_bit, spelled, spelled_behind}
use Rattle.rst_design_terms.specs.Designs.{turned_onto, turned}

pub onto_is : {X : Type 0} (xs ys : List X) → turned_onto xs ys ≡ turned xs ++ ys
onto_is [] ys = refl
onto_is (x ∷ xs) ys = onto_is xs (x ∷ ys) ∙ (sym (append_assoc (turned xs) (x ∷ []) ys) ∙ ap (λ zs. zs ++ ys) (sym (onto_is xs (x ∷ []))))

pub length_onto : {X : Type 0} (xs ys : List X) → length (turned_onto xs ys) ≡ length xs + length ys
length_onto [] ys = omega arith
length_onto (x ∷ xs) ys = let h = length_onto xs (x ∷ ys) in omega (arith, h)

pub length_turned : {X : Type 0} (xs : List X) → length (turned xs) ≡ length xs
length_turned xs = let h = length_onto xs [] in omega (arith, h)

back_onto : {X : Type 0} (xs ys zs : List X) → turned_onto (turned_onto xs ys) zs ≡ turned_onto ys (xs ++ zs)
back_onto [] ys zs = refl
back_onto (x ∷ xs) ys zs = back_onto xs (x ∷ ys) zs

append_none : {X : Type 0} (xs : List X) → xs ++ [] ≡ xs
append_none [] = refl
append_none (x ∷ xs) = ap (λ zs. x ∷ zs) (append_none xs)

pub turned_twice : {X : Type 0} (xs : List X) → turned (turned xs) ≡ xs
turned_twice xs = back_onto xs [] [] ∙ append_none xs

-- the lowest bit first spells what the most significant bit first does
behind_step : (d n : ℕ) → d + 2 * n ≡ 2 * n + d
behind_step d n = omega arith

number_onto : (xs ys : List Bool) → number (turned_onto xs ys) ≡ spelled_behind (number ys) xs
number_onto [] ys = refl
number_onto (x ∷ xs) ys = number_onto xs (x ∷ ys) ∙ ap (λ n. spelled_behind n xs) (behind_step (digit x) (number ys))

pub number_turned : (xs : List Bool) → number (turned xs) ≡ spelled xs
number_turned xs = number_onto xs []

-- the first of the bits is the most significant one
one_digit : (x : Bool) (m p : ℕ) → m + p * (digit x + 2 * 0) ≡ digit x * p + m
one_digit true m p = omega arith
one_digit false m p = omega arith

pub first_bit : (x : Bool) (xs : List Bool) → number (turned (x ∷ xs)) ≡ digit x * 2 ^ length xs + number (turned xs)
first_bit x xs =
    ap number (onto_is xs (x ∷ []))
    ∙ (number_append (turned xs) (x ∷ [])
    ∙ (ap (λ k. number (turned xs) + 2 ^ k * (digit x + 2 * 0)) (length_turned xs) ∙ one_digit x (number (turned xs)) (2 ^ length xs)))

pub turned_below : (xs : List Bool) → number (turned xs) < 2 ^ length xs
turned_below xs =
    let low = number_below (turned xs) in
    rw (length_turned xs) at low

digit_place : (b : Bool) → eqb (digit b / 2 ^ 0 % 2) 1 ≡ b
digit_place true = refl
digit_place false = refl

pub first_place : (x : Bool) (xs : List Bool) → has_bit (number (turned (x ∷ xs))) (length xs) ≡ x
first_place x xs =
    let n : ℕ = length xs in
    let nothing : n - n ≡ 0 = omega arith in
    ap (λ m. has_bit m n) (first_bit x xs)
    ∙ (ap (λ m. eqb m 1) (bit_at_cat_high (digit x) n (number (turned xs)) n (turned_below xs) (omega arith))
    ∙ (ap (λ k. has_bit (digit x) k) nothing ∙ digit_place x))

pub later_place : (x : Bool) (xs : List Bool) (p : ℕ) → p < length xs → has_bit (number (turned (x ∷ xs))) p ≡ has_bit (number (turned xs)) p
later_place x xs p below =
    ap (λ m. has_bit m p) (first_bit x xs) ∙ ap (λ m. eqb m 1) (bit_at_cat_low (digit x) (length xs) (number (turned xs)) p below)
