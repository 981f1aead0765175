-- Shifts up on numbers, in two values: a product by a power of two, modulo the word.
use Rattle.std.proofs.Common.{◌≡◌, ℕ, zero, suc, ◌+◌, ◌-◌, ◌*◌, ◌%◌, ◌^◌, ◌<◌, ◌≤◌, Bool, true, false, not, List, [], ◌∷◌, length, replicate, take, drop, cond, ltb, eqb, arith, sym, ap, ◌∙◌, inl, inr}
use Rattle.std.proofs.lemmas.Bool.{cond_both, ltb-true, ltb-false}
use Rattle.std.proofs.lemmas.Bool.Decides.{eqb_tells}
use Rattle.std.proofs.lemmas.Nat.{pow-add, mod_low, shl_below, mul-mod_first}
use Rattle.std.proofs.lemmas.List.{length-replicate, length-take, length-append}
use Rattle.std.proofs.Math.Nat.{mod-eq_of_lt, mul-mod_left, mul_assoc}
use Rattle.rst_terms.specs.declared.kinds.Direction.TheVariants.{Up}
use Rattle.rst_terms.specs.Algebras.{bits, Step}
use Rattle.rst_terms.specs.Recurrences.{chosen, reduced, moved, moved_out, shifted}
use Rattle.rst_terms.specs.declared.kinds.Connective.TheVariants.{Or}
use Rattle.rst_terms.specs.Numbers.{digit, number}
use Rattle.rst_terms.proofs.Places.{number_below, number_append, number_zeros, take_number, take_below}
use Rattle.rst_terms.proofs.Connectives.{any_number}
use Rattle.rst_terms.proofs.Choices.{chosen_bits}

zeros_add : (a b : ℕ) → 0 + a * b ≡ b * a
zeros_add a b = omega arith

up_product : (p k a b : ℕ) → (a + 2 ^ k * b) * 2 ^ p ≡ b * 2 ^ (k + p) + a * 2 ^ p
up_product p k a b = rw (pow-add 2 k p) (omega arith)

pub up_stage : (p : ℕ) (xs : List Bool) → p < length xs → number (moved Up false p xs) ≡ number xs * 2 ^ p % 2 ^ length xs
up_stage p xs h =
    let k : ℕ = length xs - p in
    let low : List Bool = take k xs in
    let width : k + p ≡ length xs = omega arith in
    let small : number low < 2 ^ k = take_below k xs (omega arith) in
    let up : number (moved Up false p xs) ≡ number low * 2 ^ p =
    number_append (replicate p false) low
    ∙ (ap (λ n. n + 2 ^ length (replicate p false) * number low) (number_zeros p)
    ∙ (ap (λ n. 0 + 2 ^ n * number low) (length-replicate p false) ∙ zeros_add (2 ^ p) (number low))) in
    up
    ∙ (sym (mod_low (number (drop k xs)) (k + p) (number low * 2 ^ p) (shl_below (number low) k p small))
    ∙ (ap (λ n. n % 2 ^ (k + p)) (sym (ap (λ n. n * 2 ^ p) (take_number k xs (omega arith)) ∙ up_product p k (number low) (number (drop k xs))))
    ∙ ap (λ n. number xs * 2 ^ p % 2 ^ n) width))

-- places at or above the width leave nothing below it
past_width : (n w p m : ℕ) → w ≤ p → 0 < m → n * 2 ^ (p * m) % 2 ^ w ≡ 0
past_width n w p (suc m) h k =
    let split : p * suc m ≡ p * m + (p - w) + w = omega arith in
    ap (λ e. n * 2 ^ e % 2 ^ w) split
    ∙ (ap (λ e. n * e % 2 ^ w) (pow-add 2 (p * m + (p - w)) w)
    ∙ (ap (λ e. e % 2 ^ w) (sym (mul_assoc n (2 ^ (p * m + (p - w))) (2 ^ w))) ∙ mul-mod_left (n * 2 ^ (p * m + (p - w))) (2 ^ w)))
past_width n w p zero h k = absurd (omega arith)

times_one : (n : ℕ) → n * 2 ^ 0 ≡ n
times_one n = omega arith

none_moved : (n w p : ℕ) → n < 2 ^ w → n ≡ n * 2 ^ (p * 0) % 2 ^ w
none_moved n w p h =
    let e : p * 0 ≡ 0 = omega arith in
    sym (ap (λ k. n * 2 ^ k % 2 ^ w) e ∙ (ap (λ k. k % 2 ^ w) (times_one n) ∙ mod-eq_of_lt h))

-- whether a number is not 0
pub is_some : (m : ℕ) → true ≡ not (eqb m 0) → 0 < m
is_some zero h = cc
is_some (suc m) h = omega arith

pub is_none : (m : ℕ) → false ≡ not (eqb m 0) → m ≡ 0
is_none m h = elim (eqb_tells m 0) [ inl t ↦ t.1 | inr t ↦ let e = rw t.0 at h in cc ]

out_cases :
    (big : Bool) (p m : ℕ) (xs : List Bool) → big ≡ not (eqb m 0) → length xs ≤ p
    → number (cond big (replicate (length xs) false) xs) ≡ number xs * 2 ^ (p * m) % 2 ^ length xs
out_cases true p m xs e h = number_zeros (length xs) ∙ sym (past_width (number xs) (length xs) p m h (is_some m e))
out_cases false p m xs e h =
    none_moved (number xs) (length xs) p (number_below xs) ∙ ap (λ k. number xs * 2 ^ (p * k) % 2 ^ length xs) (sym (is_none m e))

up_out :
    (p : ℕ) (ns xs : List Bool) → length xs ≤ p
    → number (moved_out bits tt false ns xs).1 ≡ number xs * 2 ^ (p * number ns) % 2 ^ length xs
unfolding moved_out
up_out p ns xs h =
    ap number (chosen_bits (reduced bits Or tt ns).1 (replicate (length xs) false) xs (length-replicate (length xs) false))
    ∙ out_cases (reduced bits Or tt ns).1 p (number ns) xs (any_number ns) h

up_none : (p : ℕ) (xs : List Bool) → number (moved_out bits tt false [] xs).1 ≡ number xs * 2 ^ (p * 0) % 2 ^ length xs
unfolding moved_out
up_none p xs =
    ap number (chosen_bits false (replicate (length xs) false) xs (length-replicate (length xs) false))
    ∙ none_moved (number xs) (length xs) p (number_below xs)

up_twice : (n p m w : ℕ) → (n * 2 ^ p % 2 ^ w) * 2 ^ (2 * p * m) % 2 ^ w ≡ n * 2 ^ (p * (1 + 2 * m)) % 2 ^ w
up_twice n p m w =
    let e : p + 2 * p * m ≡ p * (1 + 2 * m) = omega arith in
    mul-mod_first (n * 2 ^ p) (2 ^ (2 * p * m)) (2 ^ w)
    ∙ ap (λ k. k % 2 ^ w)
    (mul_assoc n (2 ^ p) (2 ^ (2 * p * m)) ∙ (ap (λ k. n * k) (sym (pow-add 2 p (2 * p * m))) ∙ ap (λ k. n * 2 ^ k) e))

up_width : (p : ℕ) (xs : List Bool) → p < length xs → length (moved Up false p xs) ≡ length xs
up_width p xs h = simp (length-append, length-replicate, length-take) (omega arith)

up_more :
    (n : Bool) (m p : ℕ) (xs : List Bool) → p < length xs
    → number (cond n (moved Up false p xs) xs) * 2 ^ (2 * p * m) % 2 ^ length (cond n (moved Up false p xs) xs)
    ≡ number xs * 2 ^ (p * (digit n + 2 * m)) % 2 ^ length xs
up_more true m p xs h =
    ap (λ w. number (moved Up false p xs) * 2 ^ (2 * p * m) % 2 ^ w) (up_width p xs h)
    ∙ (ap (λ k. k * 2 ^ (2 * p * m) % 2 ^ length xs) (up_stage p xs h) ∙ up_twice (number xs) p m (length xs))
up_more false m p xs h = let e : 2 * p * m ≡ p * (0 + 2 * m) = omega arith in ap (λ k. number xs * 2 ^ k % 2 ^ length xs) e

shifted_by :
    (ns : List Bool) (p : ℕ) (xs : List Bool)
    → number (shifted Up bits tt false p ns xs).1 ≡ number xs * 2 ^ (p * number ns) % 2 ^ length xs
shifted_by [] p xs = up_none p xs
shifted_by (n ∷ ns) p xs =
    let stage : Step (Unit {0}) (List Bool) = chosen bits tt n (moved Up false p xs) xs in
    cond_both (ltb p (length xs)) (shifted Up bits stage.0 false (2 * p) ns stage.1) (moved_out bits tt false (n ∷ ns) xs)
    (λ (r : Step (Unit {0}) (List Bool)). number r.1 ≡ number xs * 2 ^ (p * number (n ∷ ns)) % 2 ^ length xs)
    (λ e.
    let below : p < length xs = ltb-true p (length xs) e in
    let one : stage.1 ≡ cond n (moved Up false p xs) xs = chosen_bits n (moved Up false p xs) xs (up_width p xs below) in
    shifted_by ns (2 * p) stage.1
    ∙ (ap (λ zs. number zs * 2 ^ (2 * p * number ns) % 2 ^ length zs) one ∙ up_more n (number ns) p xs below))
    (λ e. up_out p (n ∷ ns) xs (ltb-false p (length xs) e))

pub shifted_up :
    (ns xs : List Bool) → number (shifted Up bits tt false 1 ns xs).1 ≡ number xs * 2 ^ number ns % 2 ^ length xs
shifted_up ns xs =
    let one : 1 * number ns ≡ number ns = omega arith in
    shifted_by ns 1 xs ∙ ap (λ n. number xs * 2 ^ n % 2 ^ length xs) one
