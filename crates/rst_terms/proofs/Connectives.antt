-- Words bit by bit, and all bits of a word, in two values.
use Rattle.std.proofs.Common.{◌≡◌, ℕ, suc, ◌+◌, ◌-◌, ◌*◌, ◌%◌, ◌^◌, ◌<◌, Bool, true, false, not, ◌&&◌, List, [], ◌∷◌, length, map, eqb, arith, refl, sym, ap, ◌∙◌}
use Rattle.std.specs.Prelude.{count_ones, bit_and, bit_or, bit_xor}
use Rattle.std.proofs.lemmas.Bool.{eq-eqb, ne_eqb, eqb-true, eqb-false}
use Rattle.std.proofs.lemmas.Nat.{and_block, or_block, xor_block, ones_le_self}
use Rattle.std.proofs.lemmas.Simd.{ones-mask_l_cons}
use Rattle.std.specs.Simd.Lanes.{mask_l}
use Rattle.std.proofs.Math.Nat.{pow-suc}
use Rattle.rst_value.specs.Bits as bit
use Rattle.rst_terms.specs.declared.kinds.Connective.{Connective}
use Rattle.rst_terms.specs.declared.kinds.Connective.TheVariants.{And, Or, Xor}
use Rattle.rst_terms.specs.Algebras.{bits}
use Rattle.rst_terms.specs.Recurrences.{each, joined, reduced, equal}
use Rattle.rst_terms.specs.Numbers.{digit, number}
use Rattle.rst_terms.proofs.Places.{number_below, inverted_is}

-- tests that say the same are the same
pub same_eq : (a b c d : ℕ) → (a ≡ b → c ≡ d) → (c ≡ d → a ≡ b) → eqb a b ≡ eqb c d
same_eq a b c d h k = grind (arith, eq-eqb, ne_eqb, eqb-true, eqb-false)

twice : (a : Bool) → not (not a) ≡ a
twice true = refl
twice false = refl

inverted : (a b : Bool) → bit.bit_xor (not a) b ≡ not (bit.bit_xor a b)
inverted true true = refl
inverted true false = refl
inverted false b = refl

-- a rest of 0 or 1, and the other one
turned : (m n : ℕ) → m + n ≡ 1 → not (eqb m 1) ≡ eqb n 1
turned m n h = grind (arith, eq-eqb, ne_eqb, eqb-true, eqb-false)

lanes : (xs : List Bool) → mask_l xs ≡ number xs
lanes [] = refl
lanes (x ∷ xs) = ap (λ n. digit x + 2 * n) (lanes xs)

ones_more : (x : Bool) (xs : List Bool) → count_ones (number (x ∷ xs)) ≡ digit x + count_ones (number xs)
ones_more x xs = ap count_ones (sym (lanes (x ∷ xs))) ∙ (ones-mask_l_cons x xs ∙ ap (λ n. digit x + count_ones n) (lanes xs))

-- two words bit by bit
pub each_width : (op : Connective) (xs ys : List Bool) → length xs ≡ length ys → length (each bits op tt xs ys).1 ≡ length xs
each_width op [] [] h = refl
each_width op [] (y ∷ ys) h = absurd (omega arith)
each_width op (x ∷ xs) [] h = absurd (omega arith)
each_width op (x ∷ xs) (y ∷ ys) h = ap suc (each_width op xs ys (omega arith))

flip : (d m : ℕ) → d + 2 * m ≡ m * 2 ^ 1 + d
flip d m = omega arith

digit_two : (b : Bool) → digit b < 2 ^ 1
digit_two true = omega arith
digit_two false = omega arith

and_digits : (x y : Bool) → digit (x && y) ≡ bit_and (digit x) (digit y)
and_digits true true = refl
and_digits true false = refl
and_digits false true = refl
and_digits false false = refl

or_digits : (x y : Bool) → digit (not (not x && not y)) ≡ bit_or (digit x) (digit y)
or_digits true true = refl
or_digits true false = refl
or_digits false true = refl
or_digits false false = refl

xor_digits : (x y : Bool) → digit (bit.bit_xor x y) ≡ bit_xor (digit x) (digit y)
xor_digits true true = refl
xor_digits true false = refl
xor_digits false true = refl
xor_digits false false = refl

-- one more place at the low end, for an operation on numbers that goes by bits
lowest :
    (op : ℕ → ℕ → ℕ) → ((a b r s : ℕ) → r < 2 ^ 1 → s < 2 ^ 1 → op (a * 2 ^ 1 + r) (b * 2 ^ 1 + s) ≡ op a b * 2 ^ 1 + op r s)
    → (x y z : Bool) (m n k : ℕ) → digit z ≡ op (digit x) (digit y) → k ≡ op m n
    → digit z + 2 * k ≡ op (digit x + 2 * m) (digit y + 2 * n)
lowest op block x y z m n k h e =
    ap (λ d. d + 2 * k) h
    ∙ (ap (λ j. op (digit x) (digit y) + 2 * j) e
    ∙ (flip (op (digit x) (digit y)) (op m n)
    ∙ (sym (block m n (digit x) (digit y) (digit_two x) (digit_two y))
    ∙ (ap (λ j. op j (n * 2 ^ 1 + digit y)) (sym (flip (digit x) m))
    ∙ ap (λ j. op (digit x + 2 * m) j) (sym (flip (digit y) n))))))

pub each_and : (xs ys : List Bool) → length xs ≡ length ys → number (each bits And tt xs ys).1 ≡ bit_and (number xs) (number ys)
each_and [] [] h = refl
each_and [] (y ∷ ys) h = absurd (omega arith)
each_and (x ∷ xs) [] h = absurd (omega arith)
each_and (x ∷ xs) (y ∷ ys) h =
    lowest bit_and (λ a b r s p q. and_block 1 a b r s p q) x y (x && y) (number xs) (number ys) (number (each bits And tt xs ys).1)
    (and_digits x y) (each_and xs ys (omega arith))

pub each_or : (xs ys : List Bool) → length xs ≡ length ys → number (each bits Or tt xs ys).1 ≡ bit_or (number xs) (number ys)
each_or [] [] h = refl
each_or [] (y ∷ ys) h = absurd (omega arith)
each_or (x ∷ xs) [] h = absurd (omega arith)
each_or (x ∷ xs) (y ∷ ys) h =
    lowest bit_or (λ a b r s p q. or_block 1 a b r s p q) x y (not (not x && not y)) (number xs) (number ys) (number (each bits Or tt xs ys).1)
    (or_digits x y) (each_or xs ys (omega arith))

pub each_xor : (xs ys : List Bool) → length xs ≡ length ys → number (each bits Xor tt xs ys).1 ≡ bit_xor (number xs) (number ys)
each_xor [] [] h = refl
each_xor [] (y ∷ ys) h = absurd (omega arith)
each_xor (x ∷ xs) [] h = absurd (omega arith)
each_xor (x ∷ xs) (y ∷ ys) h =
    lowest bit_xor (λ a b r s p q. xor_block 1 a b r s p q) x y (bit.bit_xor x y) (number xs) (number ys) (number (each bits Xor tt xs ys).1)
    (xor_digits x y) (each_xor xs ys (omega arith))

pub each_xnor : (xs ys : List Bool) → length xs ≡ length ys → number (map not (each bits Xor tt xs ys).1) ≡ 2 ^ length xs - 1 - bit_xor (number xs) (number ys)
each_xnor xs ys h =
    inverted_is (each bits Xor tt xs ys).1
    ∙ (ap (λ w. 2 ^ w - 1 - number (each bits Xor tt xs ys).1) (each_width Xor xs ys h)
    ∙ ap (λ n. 2 ^ length xs - 1 - n) (each_xor xs ys h))

-- whether each bit is one
pub and_more : (zs : List Bool) (a : Bool) → (joined bits And tt a zs).1 ≡ (a && (reduced bits And tt zs).1)
and_more [] true = refl
and_more [] false = refl
and_more (z ∷ zs) true = refl
and_more (z ∷ zs) false = and_more zs false

all_step : (x : Bool) (n p q : ℕ) → q ≡ p * 2 → n < p → (x && eqb n (p - 1)) ≡ eqb (digit x + 2 * n) (q - 1)
all_step true n p q e h = same_eq n (p - 1) (1 + 2 * n) (q - 1) (λ k. omega arith) (λ k. omega arith)
all_step false n p q e h = sym (ne_eqb (0 + 2 * n) (q - 1) (λ k. omega arith))

pub all_number : (xs : List Bool) → (reduced bits And tt xs).1 ≡ eqb (number xs) (2 ^ length xs - 1)
all_number [] = refl
all_number (x ∷ xs) =
    and_more xs x
    ∙ (ap (λ b. x && b) (all_number xs)
    ∙ all_step x (number xs) (2 ^ length xs) (2 ^ suc (length xs)) (pow-suc 2 (length xs)) (number_below xs))

-- whether a bit is one
pub or_more : (zs : List Bool) (a : Bool) → (joined bits Or tt a zs).1 ≡ not (not a && not (reduced bits Or tt zs).1)
or_more [] true = refl
or_more [] false = refl
or_more (z ∷ zs) true = or_more zs true
or_more (true ∷ zs) false = sym (twice (joined bits Or tt true zs).1)
or_more (false ∷ zs) false = sym (twice (joined bits Or tt false zs).1)

any_step : (x : Bool) (n : ℕ) → not (not x && not (not (eqb n 0))) ≡ not (eqb (digit x + 2 * n) 0)
any_step true n = ap not (sym (ne_eqb (1 + 2 * n) 0 (λ k. omega arith)))
any_step false n = twice (not (eqb n 0)) ∙ ap not (same_eq n 0 (0 + 2 * n) 0 (λ k. omega arith) (λ k. omega arith))

pub any_number : (xs : List Bool) → (reduced bits Or tt xs).1 ≡ not (eqb (number xs) 0)
any_number [] = refl
any_number (x ∷ xs) = or_more xs x ∙ (ap (λ b. not (not x && not b)) (any_number xs) ∙ any_step x (number xs))

-- whether an odd number of bits are one
xor_more : (zs : List Bool) (a : Bool) → (joined bits Xor tt a zs).1 ≡ bit.bit_xor a (reduced bits Xor tt zs).1
xor_more [] true = refl
xor_more [] false = refl
xor_more (z ∷ zs) true = xor_more zs (not z) ∙ (inverted z (reduced bits Xor tt zs).1 ∙ ap not (sym (xor_more zs z)))
xor_more (z ∷ zs) false = refl

odd_step : (x : Bool) (n : ℕ) → bit.bit_xor x (eqb (n % 2) 1) ≡ eqb ((digit x + n) % 2) 1
odd_step true n = turned (n % 2) ((1 + n) % 2) (omega arith)
odd_step false n = let e : 0 + n ≡ n = omega arith in rw e

pub odd_number : (xs : List Bool) → (reduced bits Xor tt xs).1 ≡ eqb (count_ones (number xs) % 2) 1
odd_number [] = let none : count_ones 0 ≡ 0 = omega (arith, ones_le_self 0) in sym (ap (λ n. eqb (n % 2) 1) none)
odd_number (x ∷ xs) =
    xor_more xs x
    ∙ (ap (λ b. bit.bit_xor x b) (odd_number xs)
    ∙ (odd_step x (count_ones (number xs)) ∙ ap (λ n. eqb (n % 2) 1) (sym (ones_more x xs))))

-- equality
same_step : (x y : Bool) (m n : ℕ) → (not (bit.bit_xor x y) && eqb m n) ≡ eqb (digit x + 2 * m) (digit y + 2 * n)
same_step true true m n = same_eq m n (1 + 2 * m) (1 + 2 * n) (λ h. omega arith) (λ h. omega arith)
same_step false false m n = same_eq m n (0 + 2 * m) (0 + 2 * n) (λ h. omega arith) (λ h. omega arith)
same_step true false m n = sym (ne_eqb (1 + 2 * m) (0 + 2 * n) (λ h. omega arith))
same_step false true m n = sym (ne_eqb (0 + 2 * m) (1 + 2 * n) (λ h. omega arith))

equal_bits : (xs ys : List Bool) → length xs ≡ length ys → (reduced bits And tt (map not (each bits Xor tt xs ys).1)).1 ≡ eqb (number xs) (number ys)
equal_bits [] [] h = refl
equal_bits [] (y ∷ ys) h = absurd (omega arith)
equal_bits (x ∷ xs) [] h = absurd (omega arith)
equal_bits (x ∷ xs) (y ∷ ys) h =
    and_more (map not (each bits Xor tt xs ys).1) (not (bit.bit_xor x y))
    ∙ (ap (λ b. not (bit.bit_xor x y) && b) (equal_bits xs ys (omega arith)) ∙ same_step x y (number xs) (number ys))

pub equal_number : (xs ys : List Bool) → length xs ≡ length ys → (equal bits tt xs ys).1 ≡ eqb (number xs) (number ys)
unfolding equal
equal_number xs ys h = equal_bits xs ys h

-- one more pair of bits
pub equal_more : (x y : Bool) (xs ys : List Bool) → (equal bits tt (x ∷ xs) (y ∷ ys)).1 ≡ (not (bit.bit_xor x y) && (equal bits tt xs ys).1)
unfolding equal
equal_more x y xs ys = and_more (map not (each bits Xor tt xs ys).1) (not (bit.bit_xor x y))
