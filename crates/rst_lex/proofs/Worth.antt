-- Numbers by their digits, one more at a time, and cut to a width.
use Rattle.std.proofs.Common.{◌≡◌, ℕ, suc, ◌+◌, ◌-◌, ◌*◌, ◌^◌, ◌%◌, ◌<◌, ◌≤◌, min, Bool, true, false, cond, List, [], ◌∷◌, ◌++◌, length, take, get_or, inl, inr, ◌⊎◌, refl, sym, ap, ◌∙◌, arith, bit_and, w64, lit<}
use Rattle.std.specs.Prelude.{◌==◌}
use Rattle.std.specs.Int.{bit_not}
use Rattle.std.proofs.lemmas.Nat.{mul-mod_first, and_mask, pow_pos, and_le_l, mod_below}
use Rattle.std.proofs.lemmas.Nat.Bits.{bit_at_and, bit_at_not, bit_at_above, bit_at-zero, bit_at-lt, same_from_bits}
use Rattle.std.specs.Int.{bit_at}
use Rattle.std.proofs.Math.Nat.{mod-add-mod, pow-zero, pow-suc, pow-le-pow_right}
use Rattle.std.proofs.Math.Pow.{mod-mod-pow}
use Rattle.std.proofs.Math.Seq.{take-suc}
use Rattle.std.proofs.lemmas.List.Sums.{sum_by_push}
use Rattle.rst_lex.specs.Literals.{is_counted, digit_count, number, digit_value, decimal_number, begins_masked, digit_bits, radix_of, mask_digit, missing_bits, mask_of}
use Rattle.std.proofs.lemmas.Bool.{eqb-true}

-- ---- one more digit

count_more : (xs : List ℕ) (b : ℕ) → digit_count (xs ++ b ∷ []) ≡ digit_count xs + cond (is_counted b) 1 0
count_more xs b = sum_by_push (λ x. cond (is_counted x) 1 0) xs b

power_more : (radix n : ℕ) → radix ^ (n + 1) ≡ radix ^ n * radix
power_more radix n = let e : n + 1 ≡ suc n = omega arith in ap (λ k. radix ^ k) e ∙ pow-suc radix n

first_digit : (radix w : ℕ) → w * radix ^ 0 + 0 ≡ 0 * radix + w
first_digit radix w = let e : w * radix ^ 0 ≡ w * 1 = ap (λ k. w * k) (pow-zero radix) in omega (arith, e)

other_digit : (w p n radix b : ℕ) → w * (p * radix) + (n * radix + b) ≡ (w * p + n) * radix + b
other_digit w p n radix b = omega arith

pub number_more : (radix : ℕ) (worth : ℕ → ℕ) (xs : List ℕ) (b : ℕ) → is_counted b ≡ true → number radix worth (xs ++ b ∷ []) ≡ number radix worth xs * radix + worth b
number_more radix worth [] b c = rw c (first_digit radix (worth b))
number_more radix worth (x ∷ xs) b c = by_test (is_counted x) (number_more radix worth xs b c)
  where
    power : radix ^ digit_count (xs ++ b ∷ []) ≡ radix ^ digit_count xs * radix
    power = ap (λ k. radix ^ k) (count_more xs b ∙ ap (λ t. digit_count xs + cond t 1 0) c) ∙ power_more radix (digit_count xs)

    by_test : (t : Bool) → number radix worth (xs ++ b ∷ []) ≡ number radix worth xs * radix + worth b
        → cond t (worth x * radix ^ digit_count (xs ++ b ∷ []) + number radix worth (xs ++ b ∷ [])) (number radix worth (xs ++ b ∷ []))
        ≡ cond t (worth x * radix ^ digit_count xs + number radix worth xs) (number radix worth xs) * radix + worth b
    by_test true again = (λ i. worth x * power i + again i) ∙ other_digit (worth x) (radix ^ digit_count xs) (number radix worth xs) radix (worth b)
    by_test false again = again

-- _ changes nothing
pub number_same : (radix : ℕ) (worth : ℕ → ℕ) (xs : List ℕ) (b : ℕ) → is_counted b ≡ false → number radix worth (xs ++ b ∷ []) ≡ number radix worth xs
number_same radix worth [] b c = rw c refl
number_same radix worth (x ∷ xs) b c = by_test (is_counted x) (number_same radix worth xs b c)
  where
    power : radix ^ digit_count (xs ++ b ∷ []) ≡ radix ^ digit_count xs
    power = ap (λ k. radix ^ k) (count_more xs b ∙ ap (λ t. digit_count xs + cond t 1 0) c ∙ no_more (digit_count xs))
      where
        no_more : (n : ℕ) → n + 0 ≡ n
        no_more n = omega arith

    by_test : (t : Bool) → number radix worth (xs ++ b ∷ []) ≡ number radix worth xs
        → cond t (worth x * radix ^ digit_count (xs ++ b ∷ []) + number radix worth (xs ++ b ∷ [])) (number radix worth (xs ++ b ∷ []))
        ≡ cond t (worth x * radix ^ digit_count xs + number radix worth xs) (number radix worth xs)
    by_test true again = λ i. worth x * power i + again i
    by_test false again = again

one_more : (xs : List ℕ) (i : ℕ) → i < length xs → take (i + 1) xs ≡ take i xs ++ get_or xs i 0 ∷ []
one_more xs i lt = let e : i + 1 ≡ suc i = omega arith in ap (λ k. take k xs) e ∙ take-suc xs i 0 lt

counted_is : (b : ℕ) → (b == 95) ≡ false → is_counted b ≡ true
counted_is b e = rw e refl

skipped_is : (b : ℕ) → (b == 95) ≡ true → is_counted b ≡ false
skipped_is b e = rw e refl

-- a step of a loop that reads digits modulo m
pub read_digit : (radix : ℕ) (worth : ℕ → ℕ) (xs : List ℕ) (i m v : ℕ) → i < length xs → is_counted (get_or xs i 0) ≡ true → v ≡ number radix worth (take i xs) % m
    → (v * radix % m + worth (get_or xs i 0)) % m ≡ number radix worth (take (i + 1) xs) % m
read_digit radix worth xs i m v lt c e =
    let b = get_or xs i 0 in
    let n = number radix worth (take i xs) in
    ap (λ k. (k * radix % m + worth b) % m) e ∙ ap (λ k. (k + worth b) % m) (mul-mod_first n radix m) ∙ mod-add-mod (n * radix) m (worth b)
    ∙ ap (λ k. k % m) (sym (number_more radix worth (take i xs) b c)) ∙ ap (λ t. number radix worth t % m) (sym (one_more xs i lt))

pub skip_digit : (radix : ℕ) (worth : ℕ → ℕ) (xs : List ℕ) (i : ℕ) → i < length xs → is_counted (get_or xs i 0) ≡ false → number radix worth (take (i + 1) xs) ≡ number radix worth (take i xs)
skip_digit radix worth xs i lt c = ap (number radix worth) (one_more xs i lt) ∙ number_same radix worth (take i xs) (get_or xs i 0) c

-- a step of the loop that reads a size
pub read_size : (xs : List ℕ) (i v : ℕ) → i < length xs → is_counted (get_or xs i 0) ≡ true → v ≡ min 65 (decimal_number (take i xs))
    → min (v * 10 + digit_value (get_or xs i 0)) 65 ≡ min 65 (decimal_number (take (i + 1) xs))
read_size xs i v lt c e =
    let n = number 10 digit_value (take i xs) in
    let more : number 10 digit_value (take (i + 1) xs) ≡ n * 10 + digit_value (get_or xs i 0) = ap (number 10 digit_value) (one_more xs i lt) ∙ number_more 10 digit_value (take i xs) (get_or xs i 0) c in
    capped v n (digit_value (get_or xs i 0)) (number 10 digit_value (take (i + 1) xs)) e more
  where
    capped : (v n d m : ℕ) → v ≡ min 65 n → m ≡ n * 10 + d → min (v * 10 + d) 65 ≡ min 65 m
    capped v n d m e f = omega arith

-- ---- cut to a width

pub cut_again : (n width : ℕ) → width ≤ 64 → n % 2 ^ 64 % 2 ^ width ≡ n % 2 ^ width
cut_again n width le = let e : 64 ≡ (64 - width) + width = omega arith in ap (λ k. n % 2 ^ k % 2 ^ width) e ∙ mod-mod-pow n (64 - width) width

pub cut_sum : (n m width : ℕ) → width ≤ 64 → (n % 2 ^ 64 + m) % 2 ^ 64 % 2 ^ width ≡ (n + m) % 2 ^ width
cut_sum n m width le = ap (λ k. k % 2 ^ width) (mod-add-mod n (2 ^ 64) m) ∙ cut_again (n + m) width le

pub below_power : (n width : ℕ) → n % 2 ^ width < 2 ^ width
below_power n width = mod_below n (2 ^ width) (pow_pos width)

pub wider_power : (m n : ℕ) → m ≤ n → 2 ^ m ≤ 2 ^ n
wider_power m n le = pow-le-pow_right {n = 2} (lit< tt) le

-- the bits of a number that stand outside a mask have none in common with it
pub apart : (n m : ℕ) → m < 2 ^ 64 → bit_and (bit_and n (bit_not w64 m)) m ≡ 0
apart n m lt = same_from_bits (bit_and (bit_and n (bit_not w64 m)) m) 0 (λ i. bit_at_and (bit_and n (bit_not w64 m)) m i ∙ none i ∙ sym (bit_at-zero i))
  where
    least : (a b c : ℕ) → b ≡ 1 - c → c < 2 → min (min a b) c ≡ 0
    least a b c e lt = omega arith

    none : (i : ℕ) → min (bit_at (bit_and n (bit_not w64 m)) i) (bit_at m i) ≡ 0
    none i = elim (below_or i) [
      | inl le ↦ (let e = bit_at_above m 64 i lt le in ap (λ k. min (bit_at (bit_and n (bit_not w64 m)) i) k) e ∙ no_min (bit_at (bit_and n (bit_not w64 m)) i))
      | inr less ↦ ap (λ k. min k (bit_at m i)) (bit_at_and n (bit_not w64 m) i) ∙ least (bit_at n i) (bit_at (bit_not w64 m) i) (bit_at m i) (bit_at_not w64 m i lt less) (bit_at-lt m i)
    ]
      where
        no_min : (a : ℕ) → min a 0 ≡ 0
        no_min a = omega arith

        below_or : (i : ℕ) → (64 ≤ i) ⊎ (i < 64)
        below_or i = grind arith

counted_ne : (b : ℕ) → (b ≡ 95 → ⊥) → is_counted b ≡ true
counted_ne b n = by_test (b == 95) refl
  where
    by_test : (t : Bool) → (b == 95) ≡ t → is_counted b ≡ true
    by_test true e = absurd (n (eqb-true b 95 e))
    by_test false e = counted_is b e

skipped_eq : (b : ℕ) → b ≡ 95 → is_counted b ≡ false
skipped_eq b e = ap is_counted e

-- the steps of the loops, as their tests say
pub digit_read : (radix : ℕ) (worth : ℕ → ℕ) (xs : List ℕ) (i m v d w : ℕ) → i < length xs → (get_or xs i 0 ≡ 95 → ⊥) → v ≡ number radix worth (take i xs) % m → d ≡ worth (get_or xs i 0) → w ≡ (v * radix % m + d) % m
    → w ≡ number radix worth (take (i + 1) xs) % m
digit_read radix worth xs i m v d w lt n e f g = g ∙ ap (λ k. (v * radix % m + k) % m) f ∙ read_digit radix worth xs i m v lt (counted_ne (get_or xs i 0) n) e

pub digit_skipped : (radix : ℕ) (worth : ℕ → ℕ) (xs : List ℕ) (i m v w : ℕ) → i < length xs → get_or xs i 0 ≡ 95 → v ≡ number radix worth (take i xs) % m → w ≡ v → w ≡ number radix worth (take (i + 1) xs) % m
digit_skipped radix worth xs i m v w lt n e g = g ∙ e ∙ ap (λ k. k % m) (sym (skip_digit radix worth xs i lt (skipped_eq (get_or xs i 0) n)))

pub size_read : (xs : List ℕ) (i v d w : ℕ) → i < length xs → (get_or xs i 0 ≡ 95 → ⊥) → v ≡ min 65 (decimal_number (take i xs)) → d ≡ digit_value (get_or xs i 0) → w ≡ min (v * 10 + d) 65
    → w ≡ min 65 (decimal_number (take (i + 1) xs))
size_read xs i v d w lt n e f g = g ∙ ap (λ k. min (v * 10 + k) 65) f ∙ read_size xs i v lt (counted_ne (get_or xs i 0) n) e

pub size_skipped : (xs : List ℕ) (i v w : ℕ) → i < length xs → get_or xs i 0 ≡ 95 → v ≡ min 65 (decimal_number (take i xs)) → w ≡ v → w ≡ min 65 (decimal_number (take (i + 1) xs))
size_skipped xs i v w lt n e g = g ∙ e ∙ ap (λ k. min 65 k) (sym (skip_digit 10 digit_value xs i lt (skipped_eq (get_or xs i 0) n)))

-- ---- masks and values

less_itself : (m n : ℕ) → m ≤ n → 0 ≡ m - n
less_itself m n le = omega arith

pub missing_none : (letter : ℕ) (digits : List ℕ) (width : ℕ) → begins_masked digits ≡ true → width ≤ digit_count digits * digit_bits letter → 0 ≡ missing_bits letter digits width
missing_none letter digits width b le = less_itself (2 ^ width) (2 ^ (digit_count digits * digit_bits letter)) (wider_power width (digit_count digits * digit_bits letter) le) ∙ sym (ap (λ t. cond t (2 ^ width - 2 ^ (digit_count digits * digit_bits letter)) 0) b)

less_ones : (m n : ℕ) → 1 ≤ n → (m - 1) - (n - 1) ≡ m - n
less_ones m n le = omega arith

pub missing_some : (letter : ℕ) (digits : List ℕ) (width : ℕ) → begins_masked digits ≡ true → (2 ^ width - 1) - (2 ^ (digit_count digits * digit_bits letter) - 1) ≡ missing_bits letter digits width
missing_some letter digits width b = less_ones (2 ^ width) (2 ^ (digit_count digits * digit_bits letter)) (pow_pos (digit_count digits * digit_bits letter)) ∙ sym (ap (λ t. cond t (2 ^ width - 2 ^ (digit_count digits * digit_bits letter)) 0) b)

pub ones_grow : (m n : ℕ) → m ≤ n → 2 ^ m - 1 ≤ 2 ^ n - 1
ones_grow m n le = omega (arith, wider_power m n le)

pub mask_made : (letter : ℕ) (digits : List ℕ) (width r m x v : ℕ) → r ≡ radix_of letter → m ≡ number r (mask_digit r) digits % 2 ^ 64 → x ≡ missing_bits letter digits width → width ≤ 64 → v ≡ (m + x) % 2 ^ 64 % 2 ^ width
    → v ≡ mask_of letter digits width
mask_made letter digits width r m x v e f g le h =
    h ∙ (λ i. ((f ∙ ap (λ k. number k (mask_digit k) digits % 2 ^ 64) e) i + g i) % 2 ^ 64 % 2 ^ width) ∙ cut_sum (number (radix_of letter) (mask_digit (radix_of letter)) digits) (missing_bits letter digits width) width le

pub value_made : (letter : ℕ) (digits : List ℕ) (width r n v : ℕ) → r ≡ radix_of letter → n ≡ number r digit_value digits % 2 ^ 64 → width ≤ 64 → v ≡ n % 2 ^ width → v ≡ number (radix_of letter) digit_value digits % 2 ^ width
value_made letter digits width r n v e f le g = g ∙ ap (λ k. k % 2 ^ width) (f ∙ ap (λ k. number k digit_value digits % 2 ^ 64) e) ∙ cut_again (number (radix_of letter) digit_value digits) width le

pub value_below : (v n width k : ℕ) → v ≡ n % 2 ^ width → bit_and v k < 2 ^ width
value_below v n width k e = omega (arith, e, below_power n width, and_le_l v k)

pub mask_below : (letter : ℕ) (digits : List ℕ) (width m : ℕ) → m ≡ mask_of letter digits width → m < 2 ^ width
mask_below letter digits width m e = omega (arith, e, below_power (number (radix_of letter) (mask_digit (radix_of letter)) digits + missing_bits letter digits width) width)

pub within_word : (m width : ℕ) → width ≤ 64 → m < 2 ^ width → m < 2 ^ 64
within_word m width le lt = omega (arith, wider_power width 64 le, lt)

pub ones_cut : (v width : ℕ) → bit_and v (2 ^ width - 1) ≡ v % 2 ^ width
ones_cut v width = and_mask v width
