-- Products on numbers, in two values.
use Rattle.std.proofs.Common.{◌≡◌, ℕ, suc, ◌+◌, ◌-◌, ◌*◌, ◌%◌, ◌^◌, ◌<◌, ◌≤◌, Bool, true, false, ◌&&◌, List, [], ◌∷◌, ◌++◌, length, replicate, take, arith, refl, sym, ap, ◌∙◌}
use Rattle.std.proofs.lemmas.List.{length-replicate, length-append, length-take-le}
use Rattle.std.proofs.lemmas.Nat.{pow_pos}
use Rattle.std.proofs.Math.Nat.{pow-suc, mod-add-mod, mod-eq_of_lt}
use Rattle.rst_terms.specs.Algebras.{bits}
use Rattle.rst_terms.specs.Recurrences.{Summed, summed, masked, added_up, product}
use Rattle.rst_terms.specs.Numbers.{digit, number}
use Rattle.rst_terms.proofs.Places.{number_below, number_append, number_zeros}
use Rattle.rst_terms.proofs.Sums.{summed_modulo, summed_width}
use Rattle.rst_terms.proofs.ShiftsUp.{up_stage}

one_times : (n : ℕ) → n ≡ 1 * n
one_times n = omega arith

none_times : (n : ℕ) → 0 ≡ 0 * n
none_times n = omega arith

both_zero : (a p b : ℕ) → a ≡ 0 → b ≡ 0 → a + p * b ≡ 0
both_zero a p b h k = rw (h, k) (omega arith)

sum_widths : (i w a b : ℕ) → i ≤ w → a ≡ i → b ≡ w - i → a + b ≡ w
sum_widths i w a b h k l = omega arith

turn_sum : (r x y : ℕ) → r + x + 0 + y ≡ x + (r + y)
turn_sum r x y = omega arith

spread_by : (r d n p q m : ℕ) → q ≡ p * 2 → d * (n * p) + (r + n * q * m) ≡ r + n * p * (d + 2 * m)
spread_by r d n p q m e = rw e (omega arith)

spread : (r d n i m : ℕ) → d * (n * 2 ^ i) + (r + n * 2 ^ suc i * m) ≡ r + n * 2 ^ i * (d + 2 * m)
spread r d n i m = spread_by r d n (2 ^ i) (2 ^ suc i) m (pow-suc 2 i)

plus_none : (r n : ℕ) → r + n * 0 ≡ r
plus_none r n = omega arith

whole : (n m : ℕ) → 0 + n * 2 ^ 0 * m ≡ n * m
whole n m = omega arith

and_true : (x : Bool) → (x && true) ≡ x
and_true true = refl
and_true false = refl

and_false : (x : Bool) → (x && false) ≡ false
and_false true = refl
and_false false = refl

masked_true : (xs : List Bool) → (masked bits tt true xs).1 ≡ xs
masked_true [] = refl
masked_true (x ∷ xs) = let h = masked_true xs in let e = and_true x in λ i. e i ∷ h i

masked_false : (xs : List Bool) → (masked bits tt false xs).1 ≡ replicate (length xs) false
masked_false [] = refl
masked_false (x ∷ xs) = let h = masked_false xs in let e = and_false x in λ i. e i ∷ h i

masked_width : (b : Bool) (xs : List Bool) → length (masked bits tt b xs).1 ≡ length xs
masked_width b [] = refl
masked_width b (x ∷ xs) = ap suc (masked_width b xs)

zero_mod : (p : ℕ) → 0 < p → 0 ≡ 0 % p
zero_mod p h = sym (mod-eq_of_lt h)

-- the part of the product that one bit gives
part_number :
    (b : Bool) (xs : List Bool) (i : ℕ) → i < length xs
    → number (replicate i false ++ (masked bits tt b (take (length xs - i) xs)).1) ≡ digit b * (number xs * 2 ^ i) % 2 ^ length xs
part_number true xs i h =
    ap (λ ys. number (replicate i false ++ ys)) (masked_true (take (length xs - i) xs))
    ∙ (up_stage i xs h ∙ ap (λ n. n % 2 ^ length xs) (one_times (number xs * 2 ^ i)))
part_number false xs i h =
    ap (λ ys. number (replicate i false ++ ys)) (masked_false (take (length xs - i) xs))
    ∙ (number_append (replicate i false) (replicate (length (take (length xs - i) xs)) false)
    ∙ (both_zero (number (replicate i false)) (2 ^ length (replicate i false)) (number (replicate (length (take (length xs - i) xs)) false)) (number_zeros i) (number_zeros (length (take (length xs - i) xs)))
    ∙ (zero_mod (2 ^ length xs) (pow_pos (length xs)) ∙ ap (λ n. n % 2 ^ length xs) (none_times (number xs * 2 ^ i)))))

part_width : (b : Bool) (xs : List Bool) (i : ℕ) → i ≤ length xs → length (replicate i false ++ (masked bits tt b (take (length xs - i) xs)).1) ≡ length xs
part_width b xs i h =
    length-append (replicate i false) (masked bits tt b (take (length xs - i) xs)).1
    ∙ sum_widths i (length xs) (length (replicate i false)) (length (masked bits tt b (take (length xs - i) xs)).1) h (length-replicate i false)
    (masked_width b (take (length xs - i) xs) ∙ length-take-le (length xs - i) xs (omega arith))

-- one more bit of the second factor
product_step :
    (r d n i m w : ℕ) → ((r + d * (n * 2 ^ i) % 2 ^ w + 0) % 2 ^ w + n * 2 ^ suc i * m) % 2 ^ w ≡ (r + n * 2 ^ i * (d + 2 * m)) % 2 ^ w
product_step r d n i m w =
    mod-add-mod (r + d * (n * 2 ^ i) % 2 ^ w + 0) (2 ^ w) (n * 2 ^ suc i * m)
    ∙ (ap (λ k. k % 2 ^ w) (turn_sum r (d * (n * 2 ^ i) % 2 ^ w) (n * 2 ^ suc i * m))
    ∙ (mod-add-mod (d * (n * 2 ^ i)) (2 ^ w) (r + n * 2 ^ suc i * m)
    ∙ ap (λ k. k % 2 ^ w) (spread r d n i m)))

added_up_width :
    (ys : List Bool) (rs xs : List Bool) (i : ℕ) → length rs ≡ length xs → i + length ys ≤ length xs
    → length (added_up bits tt rs xs i ys).1 ≡ length xs
added_up_width [] rs xs i e h = e
added_up_width (y ∷ ys) rs xs i e h =
    let part : List Bool = replicate i false ++ (masked bits tt y (take (length xs - i) xs)).1 in
    added_up_width ys (summed bits tt false rs part).bits xs (suc i) (summed_width false rs part (e ∙ sym (part_width y xs i (omega arith))) ∙ e) (omega arith)

added_up_number :
    (ys : List Bool) (rs xs : List Bool) (i : ℕ) → length rs ≡ length xs → i + length ys ≤ length xs
    → number (added_up bits tt rs xs i ys).1 ≡ (number rs + number xs * 2 ^ i * number ys) % 2 ^ length xs
added_up_number [] rs xs i e h =
    sym (ap (λ k. k % 2 ^ length xs) (plus_none (number rs) (number xs * 2 ^ i)) ∙ mod-eq_of_lt (rw e at (number_below rs)))
added_up_number (y ∷ ys) rs xs i e h =
    let part : List Bool = replicate i false ++ (masked bits tt y (take (length xs - i) xs)).1 in
    let next : Summed (Unit {0}) Bool = summed bits tt false rs part in
    let same : length rs ≡ length part = e ∙ sym (part_width y xs i (omega arith)) in
    let value : number next.bits ≡ (number rs + digit y * (number xs * 2 ^ i) % 2 ^ length xs + 0) % 2 ^ length xs =
    summed_modulo false rs part same
    ∙ (ap (λ w. (number rs + number part + 0) % 2 ^ w) e ∙ ap (λ p. (number rs + p + 0) % 2 ^ length xs) (part_number y xs i (omega arith))) in
    added_up_number ys next.bits xs (suc i) (summed_width false rs part same ∙ e) (omega arith)
    ∙ (ap (λ r. (r + number xs * 2 ^ suc i * number ys) % 2 ^ length xs) value
    ∙ product_step (number rs) (digit y) (number xs) i (number ys) (length xs))

pub product_number :
    (xs ys : List Bool) → length xs ≡ length ys → number (product bits tt xs ys).1 ≡ number xs * number ys % 2 ^ length xs
product_number xs ys h =
    added_up_number ys (replicate (length xs) false) xs 0 (length-replicate (length xs) false) (omega arith)
    ∙ (ap (λ z. (z + number xs * 2 ^ 0 * number ys) % 2 ^ length xs) (number_zeros (length xs))
    ∙ ap (λ k. k % 2 ^ length xs) (whole (number xs) (number ys)))

pub product_width : (xs ys : List Bool) → length xs ≡ length ys → length (product bits tt xs ys).1 ≡ length xs
product_width xs ys h = added_up_width ys (replicate (length xs) false) xs 0 (length-replicate (length xs) false) (omega arith)
