-- Matches of labels, in two values.
use Rattle.std.proofs.Common.{◌≡◌, ℕ, zero, suc, ◌+◌, ◌*◌, ◌/◌, ◌%◌, ◌^◌, ◌≤◌, Bool, true, false, not, ◌&&◌, ◌||◌, List, [], ◌∷◌, length, cond, eqb, arith, refl, sym, ap, ◌∙◌}
use Rattle.rst_value.specs.Bits.{bit_xor}
use Rattle.rst_terms.specs.Algebras.{bits}
use Rattle.rst_terms.specs.Recurrences.{equal}
use Rattle.rst_terms.specs.Numbers.{digit, number}
use Rattle.rst_terms.proofs.Places.{digit_small, one_more, halved}
use Rattle.rst_terms.proofs.Connectives.{equal_more}
use Rattle.rst_cycle.specs.Bits.{has_bit, same_bit}
use Rattle.rst_cycle.specs.Effects.{agree}
use Rattle.rst_statement_terms.specs.Statements.{unmasked}

half_bit : (n k : ℕ) → has_bit (n / 2) k ≡ has_bit n (suc k)
half_bit n k = ap (λ z. eqb (z % 2) 1) (one_more n k)

swap : (a b z : Bool) → cond a (cond b z false) false ≡ cond b (cond a z false) false
swap true true z = refl
swap true false z = refl
swap false true z = refl
swap false false z = refl

half_place : (mask m n k : ℕ) → (has_bit mask (suc k) || same_bit (has_bit m (suc k)) (has_bit n (suc k))) ≡ (has_bit (mask / 2) k || same_bit (has_bit (m / 2) k) (has_bit (n / 2) k))
half_place mask m n k =
    let a = half_bit mask k in let b = half_bit m k in let c = half_bit n k in
    sym (λ i. a i || same_bit (b i) (c i))

-- the lowest place first
agree_low :
    (w mask m n : ℕ)
    → agree (suc w) mask m n ≡ cond (has_bit mask 0 || same_bit (has_bit m 0) (has_bit n 0)) (agree w (mask / 2) (m / 2) (n / 2)) false
agree_low zero mask m n = refl
agree_low (suc w) mask m n =
    ap (λ z. cond (has_bit mask (suc w) || same_bit (has_bit m (suc w)) (has_bit n (suc w))) z false) (agree_low w mask m n)
    ∙ (swap (has_bit mask (suc w) || same_bit (has_bit m (suc w)) (has_bit n (suc w))) (has_bit mask 0 || same_bit (has_bit m 0) (has_bit n 0)) (agree w (mask / 2) (m / 2) (n / 2))
    ∙ ap (λ b. cond (has_bit mask 0 || same_bit (has_bit m 0) (has_bit n 0)) (cond b (agree w (mask / 2) (m / 2) (n / 2)) false) false) (half_place mask m n w))

-- the lowest bit of a word
low_digit : (d m : ℕ) → d ≤ 1 → (d + 2 * m) / 2 ^ 0 % 2 ≡ d
low_digit d m h = omega arith

digit_is : (b : Bool) → eqb (digit b) 1 ≡ b
digit_is true = refl
digit_is false = refl

low_bit : (x : Bool) (xs : List Bool) → has_bit (number (x ∷ xs)) 0 ≡ x
low_bit x xs = ap (λ n. eqb n 1) (low_digit (digit x) (number xs) (digit_small x)) ∙ digit_is x

low_mask : (mask : ℕ) → has_bit mask 0 ≡ eqb (mask % 2) 1
low_mask mask = let e : mask / 2 ^ 0 ≡ mask = omega arith in ap (λ n. eqb (n % 2) 1) e

tail : (x : Bool) (xs : List Bool) → number (x ∷ xs) / 2 ≡ number xs
tail x xs = sym (halved (digit x) (number xs) (digit_small x))

agree_more :
    (mask : ℕ) (x y : Bool) (xs ys : List Bool) (w : ℕ)
    → agree (suc w) mask (number (x ∷ xs)) (number (y ∷ ys)) ≡ cond (eqb (mask % 2) 1 || same_bit x y) (agree w (mask / 2) (number xs) (number ys)) false
agree_more mask x y xs ys w =
    let a = low_mask mask in let b = low_bit x xs in let c = low_bit y ys in let d = tail x xs in let e = tail y ys in
    agree_low w mask (number (x ∷ xs)) (number (y ∷ ys)) ∙ (λ i. cond (a i || same_bit (b i) (c i)) (agree w (mask / 2) (d i) (e i)) false)

kept_step : (x y z : Bool) → (not (bit_xor x y) && z) ≡ cond (same_bit x y) z false
kept_step true true z = refl
kept_step true false z = refl
kept_step false true z = refl
kept_step false false z = refl

match_step :
    (b : Bool) (x y : Bool) (xs ys : List Bool) (z : Bool) → (equal bits tt xs ys).1 ≡ z
    → (equal bits tt (cond b xs (x ∷ xs)) (cond b ys (y ∷ ys))).1 ≡ cond (b || same_bit x y) z false
match_step true x y xs ys z h = h
match_step false x y xs ys z h = equal_more x y xs ys ∙ (ap (λ w. not (bit_xor x y) && w) h ∙ kept_step x y z)

none_equal : (equal bits tt [] []).1 ≡ true
unfolding equal
none_equal = refl

pub label_matches :
    (xs ys : List Bool) (mask : ℕ) → length xs ≡ length ys
    → (equal bits tt (unmasked mask xs) (unmasked mask ys)).1 ≡ agree (length xs) mask (number xs) (number ys)
label_matches [] [] mask h = none_equal
label_matches [] (y ∷ ys) mask h = absurd (omega arith)
label_matches (x ∷ xs) [] mask h = absurd (omega arith)
label_matches (x ∷ xs) (y ∷ ys) mask h =
    match_step (eqb (mask % 2) 1) x y (unmasked (mask / 2) xs) (unmasked (mask / 2) ys) (agree (length xs) (mask / 2) (number xs) (number ys)) (label_matches xs ys (mask / 2) (omega arith))
    ∙ sym (agree_more mask x y xs ys (length xs))
