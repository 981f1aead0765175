-- The numbers that parts of words spell.
use Rattle.std.proofs.Common.{◌≡◌, ℕ, zero, suc, ◌+◌, ◌-◌, ◌*◌, ◌/◌, ◌%◌, ◌^◌, ◌<◌, ◌≤◌, Bool, true, false, not, List, [], ◌∷◌, ◌++◌, length, replicate, take, drop, get_or, map, cond, eqb, arith, refl, sym, ap, ◌∙◌}
use Rattle.std.proofs.lemmas.Bool.{cond_both, eqb-true, eqb-false}
use Rattle.std.proofs.lemmas.Nat.{pow_pos, shr_high, shr-shr}
use Rattle.std.proofs.lemmas.List.{take-append-drop, length-take-le}
use Rattle.std.proofs.Math.Nat.{pow-suc, mod-eq_of_lt, add-mul-mod_self_left}
use Rattle.rst_terms.specs.Numbers.{digit, number, bits_of}

pub digit_small : (b : Bool) → digit b ≤ 1
digit_small true = omega arith
digit_small false = omega arith

-- a word is below the power of its width
step_below : (d n p q : ℕ) → d ≤ 1 → n < p → q ≡ p * 2 → d + 2 * n < q
step_below d n p q h k e = omega arith

pub number_below : (xs : List Bool) → number xs < 2 ^ length xs
number_below [] = omega arith
number_below (x ∷ xs) = step_below (digit x) (number xs) (2 ^ length xs) (2 ^ suc (length xs)) (digit_small x) (number_below xs) (pow-suc 2 (length xs))

-- a word behind another
append_step : (d n m p q k : ℕ) → q ≡ p * 2 → n + p * m ≡ k → d + 2 * k ≡ (d + 2 * n) + q * m
append_step d n m p q k e h = rw (e, sym h) (omega arith)

pub number_append : (xs ys : List Bool) → number (xs ++ ys) ≡ number xs + 2 ^ length xs * number ys
number_append [] ys = omega arith
number_append (x ∷ xs) ys =
    append_step (digit x) (number xs) (number ys) (2 ^ length xs) (2 ^ suc (length xs)) (number (xs ++ ys)) (pow-suc 2 (length xs)) (sym (number_append xs ys))

pub number_zeros : (n : ℕ) → number (replicate n false) ≡ 0
number_zeros zero = refl
number_zeros (suc n) = let h = number_zeros n in omega (arith, h)

-- one bit, many times
pub number_repeated : (fill : Bool) (n : ℕ) → number (replicate n fill) ≡ cond fill (2 ^ n - 1) 0
number_repeated true zero = refl
number_repeated false n = number_zeros n
number_repeated true (suc n) =
    let h = number_repeated true n in let p = pow_pos n in rw (pow-suc 2 n) (omega (arith, h, p))

-- the lower bits and the upper ones
pub take_number : (k : ℕ) (xs : List Bool) → k ≤ length xs → number xs ≡ number (take k xs) + 2 ^ k * number (drop k xs)
take_number k xs h =
    ap number (sym (take-append-drop k xs))
    ∙ (number_append (take k xs) (drop k xs) ∙ ap (λ n. number (take k xs) + 2 ^ n * number (drop k xs)) (length-take-le k xs h))

pub take_below : (k : ℕ) (xs : List Bool) → k ≤ length xs → number (take k xs) < 2 ^ k
take_below k xs h = let low = number_below (take k xs) in rw (length-take-le k xs h) at low

pub modulo_of : (a w m n : ℕ) → a < w → a + w * m ≡ n → a ≡ n % w
modulo_of a w m n h e = sym (ap (λ k. k % w) (sym e) ∙ (add-mul-mod_self_left a w m ∙ mod-eq_of_lt h))

pub number_take : (k : ℕ) (xs : List Bool) → k ≤ length xs → number (take k xs) ≡ number xs % 2 ^ k
number_take k xs h = modulo_of (number (take k xs)) (2 ^ k) (number (drop k xs)) (number xs) (take_below k xs h) (sym (take_number k xs h))

other_way : (a p b : ℕ) → a + p * b ≡ b * p + a
other_way a p b = omega arith

pub number_drop : (k : ℕ) (xs : List Bool) → k ≤ length xs → number (drop k xs) ≡ number xs / 2 ^ k
number_drop k xs h =
    sym (ap (λ n. n / 2 ^ k) (take_number k xs h ∙ other_way (number (take k xs)) (2 ^ k) (number (drop k xs)))
    ∙ shr_high (number (drop k xs)) k (number (take k xs)) (take_below k xs h))

-- the bit at a place
pub lowest : (d m : ℕ) → d ≤ 1 → d ≡ (d + 2 * m) % 2
lowest d m h = omega arith

pub halved : (d m : ℕ) → d ≤ 1 → m ≡ (d + 2 * m) / 2
halved d m h = omega arith

nothing_moved : (i : ℕ) → 0 / 2 ^ i ≡ 0
nothing_moved i = let p = pow_pos i in omega (arith, p)

pub one_more : (n i : ℕ) → n / 2 / 2 ^ i ≡ n / 2 ^ suc i
one_more n i = let place : 1 + i ≡ suc i = omega arith in shr-shr n 1 i ∙ ap (λ k. n / 2 ^ k) place

pub bit_at_place : (xs : List Bool) (i : ℕ) → digit (get_or xs i false) ≡ number xs / 2 ^ i % 2
bit_at_place [] i = sym (ap (λ n. n % 2) (nothing_moved i))
bit_at_place (x ∷ xs) zero = let one : (digit x + 2 * number xs) / 2 ^ 0 ≡ digit x + 2 * number xs = omega arith in rw one (lowest (digit x) (number xs) (digit_small x))
bit_at_place (x ∷ xs) (suc i) =
    bit_at_place xs i
    ∙ ap (λ n. n % 2) (ap (λ n. n / 2 ^ i) (halved (digit x) (number xs) (digit_small x)) ∙ one_more (digit x + 2 * number xs) i)

-- the lowest bits of a number
bit_half : (n : ℕ) → digit (eqb (n % 2) 1) + 2 * (n / 2) ≡ n
bit_half n =
    cond_both (eqb (n % 2) 1) 1 0 (λ d. d + 2 * (n / 2) ≡ n)
    (λ e. let one = eqb-true (n % 2) 1 e in omega (arith, one)) (λ e. let other = eqb-false (n % 2) 1 e in omega (arith, other))

pub bits_width : (w n : ℕ) → length (bits_of w n) ≡ w
bits_width zero n = refl
bits_width (suc w) n = ap suc (bits_width w (n / 2))

half_below : (n p q : ℕ) → q ≡ p * 2 → n < q → n / 2 < p
half_below n p q e h = omega arith

pub number_bits : (w n : ℕ) → n < 2 ^ w → number (bits_of w n) ≡ n
number_bits zero n h = omega arith
number_bits (suc w) n h =
    let rest = number_bits w (n / 2) (half_below n (2 ^ w) (2 ^ suc w) (pow-suc 2 w) h) in
    ap (λ k. digit (eqb (n % 2) 1) + 2 * k) rest ∙ bit_half n

-- each bit inverted
not_step : (x : Bool) (n m p : ℕ) → n + m + 1 ≡ p → (digit (not x) + 2 * n) + (digit x + 2 * m) + 1 ≡ p * 2
not_step true n m p h = omega arith
not_step false n m p h = omega arith

pub inverted_number : (xs : List Bool) → number (map not xs) + number xs + 1 ≡ 2 ^ length xs
inverted_number [] = refl
inverted_number (x ∷ xs) = rw (pow-suc 2 (length xs)) (not_step x (number (map not xs)) (number xs) (2 ^ length xs) (inverted_number xs))

pub inverted_is : (xs : List Bool) → number (map not xs) ≡ 2 ^ length xs - 1 - number xs
inverted_is xs = omega (arith, inverted_number xs)
