-- The bits of numbers that are cut and put together.
use Rattle.std.proofs.Common.{◌≡◌, ℕ, ◌+◌, ◌-◌, ◌*◌, ◌/◌, ◌%◌, ◌^◌, ◌<◌, ◌≤◌, ◌⊎◌, false, eqb, arith, sym, ap, ◌∙◌, inl, inr, subst}
use Rattle.std.proofs.lemmas.Bool.{cond_both, eqb-true, eqb-false}
use Rattle.std.proofs.lemmas.Nat.{pow_pos, pow-add, shr-shr, shr_split, shr_below, mul-add-lt, mod_below}
use Rattle.std.proofs.lemmas.Nat.Bits.{bit_at-lt, same_from_bits_below, bit_at_above, bit_at_cat_low, bit_at_cat_high}
use Rattle.rst_cycle.specs.Bits.{has_bit, digit, replaced}

digit_bit : (n p : ℕ) → digit (has_bit n p) ≡ n / 2 ^ p % 2
digit_bit n p =
    let small = bit_at-lt n p in
    cond_both (eqb (n / 2 ^ p % 2) 1) 1 0 (λ d. d ≡ n / 2 ^ p % 2)
    (λ e. let one = eqb-true (n / 2 ^ p % 2) 1 e in omega (arith, one)) (λ e. let other = eqb-false (n / 2 ^ p % 2) 1 e in omega (arith, small, other))

-- numbers of one width with the same bits
pub same_number : (w a b : ℕ) → a < 2 ^ w → b < 2 ^ w → ((p : ℕ) → p < w → has_bit a p ≡ has_bit b p) → a ≡ b
same_number w a b h k same = same_from_bits_below w a b h k (λ p l. sym (digit_bit a p) ∙ (ap digit (same p l) ∙ digit_bit b p))

-- a number has no bit past its width
pub bit_past : (n w p : ℕ) → n < 2 ^ w → w ≤ p → has_bit n p ≡ false
bit_past n w p h l = ap (λ m. eqb m 1) (bit_at_above n w p h l)

pub bit_shifted : (n k p : ℕ) → has_bit (n / 2 ^ k) p ≡ has_bit n (k + p)
bit_shifted n k p = ap (λ m. eqb (m % 2) 1) (shr-shr n k p)

pub bit_cut : (n k p : ℕ) → p < k → has_bit (n % 2 ^ k) p ≡ has_bit n p
bit_cut n k p h =
    ap (λ m. eqb m 1) (sym (bit_at_cat_low (n / 2 ^ k) k (n % 2 ^ k) p h))
    ∙ ap (λ m. has_bit m p) (shr_split n k)

-- the bits of a slice
pub part_bit : (n low width p : ℕ) → p < width → has_bit (n / 2 ^ low % 2 ^ width) p ≡ has_bit n (low + p)
part_bit n low width p h = bit_cut (n / 2 ^ low) width p h ∙ bit_shifted n low p

pub part_below : (n low width : ℕ) → n / 2 ^ low % 2 ^ width < 2 ^ width
part_below n low width = mod_below (n / 2 ^ low) (2 ^ width) (pow_pos width)

pub same_part : (low width a b : ℕ) → ((p : ℕ) → low ≤ p → p < low + width → has_bit a p ≡ has_bit b p) → a / 2 ^ low % 2 ^ width ≡ b / 2 ^ low % 2 ^ width
same_part low width a b same =
    same_number width (a / 2 ^ low % 2 ^ width) (b / 2 ^ low % 2 ^ width) (part_below a low width) (part_below b low width)
    (λ p h. part_bit a low width p h ∙ (same (low + p) (omega arith) (omega arith) ∙ sym (part_bit b low width p h)))

-- ---- a number with a part replaced

-- its upper bits, the part and its lower bits
arrange : (l m h p q r : ℕ) → r ≡ p * q → l + (m * p + h * r) ≡ (h * q + m) * p + l
arrange l m h p q r e = rw e (omega arith)

replaced_is : (low width old part : ℕ) → replaced low width old part ≡ (old / 2 ^ (low + width) * 2 ^ width + part % 2 ^ width) * 2 ^ low + old % 2 ^ low
replaced_is low width old part =
    arrange (old % 2 ^ low) (part % 2 ^ width) (old / 2 ^ (low + width)) (2 ^ low) (2 ^ width) (2 ^ (low + width)) (pow-add 2 low width)

pub replaced_inside : (low width old part p : ℕ) → low ≤ p → p < low + width → has_bit (replaced low width old part) p ≡ has_bit part (p - low)
replaced_inside low width old part p h k =
    let lower : old % 2 ^ low < 2 ^ low = mod_below old (2 ^ low) (pow_pos low) in
    ap (λ n. has_bit n p) (replaced_is low width old part)
    ∙ (ap (λ m. eqb m 1) (bit_at_cat_high (old / 2 ^ (low + width) * 2 ^ width + part % 2 ^ width) low (old % 2 ^ low) p lower h)
    ∙ (ap (λ m. eqb m 1) (bit_at_cat_low (old / 2 ^ (low + width)) width (part % 2 ^ width) (p - low) (omega arith))
    ∙ bit_cut part width (p - low) (omega arith)))

pub replaced_outside : (low width old part p : ℕ) → (p < low) ⊎ (low + width ≤ p) → has_bit (replaced low width old part) p ≡ has_bit old p
replaced_outside low width old part p (inl h) =
    ap (λ n. has_bit n p) (replaced_is low width old part)
    ∙ (ap (λ m. eqb m 1) (bit_at_cat_low (old / 2 ^ (low + width) * 2 ^ width + part % 2 ^ width) low (old % 2 ^ low) p h)
    ∙ bit_cut old low p h)
replaced_outside low width old part p (inr h) =
    let lower : old % 2 ^ low < 2 ^ low = mod_below old (2 ^ low) (pow_pos low) in
    let middle : part % 2 ^ width < 2 ^ width = mod_below part (2 ^ width) (pow_pos width) in
    let back : low + width + (p - low - width) ≡ p = omega arith in
    ap (λ n. has_bit n p) (replaced_is low width old part)
    ∙ (ap (λ m. eqb m 1) (bit_at_cat_high (old / 2 ^ (low + width) * 2 ^ width + part % 2 ^ width) low (old % 2 ^ low) p lower (omega arith))
    ∙ (ap (λ m. eqb m 1) (bit_at_cat_high (old / 2 ^ (low + width)) width (part % 2 ^ width) (p - low) middle (omega arith))
    ∙ (bit_shifted old (low + width) (p - low - width) ∙ ap (has_bit old) back)))

below_step : (a w b h p r n : ℕ) → a * w + b < w * h → r < p → n ≡ p * (w * h) → (a * w + b) * p + r < n
below_step a w b h p r n k l e = rw e (mul-add-lt (a * w + b) p r (w * h) k l)

pub replaced_below : (w low width old part : ℕ) → old < 2 ^ w → low + width ≤ w → replaced low width old part < 2 ^ w
replaced_below w low width old part h k =
    let rest : w - (low + width) + (low + width) ≡ w = omega arith in
    let other : low + (width + (w - (low + width))) ≡ w = omega arith in
    let upper : old / 2 ^ (low + width) < 2 ^ (w - (low + width)) = shr_below old (w - (low + width)) (low + width) (subst (λ n. old < 2 ^ n) (sym rest) h) in
    let middle : part % 2 ^ width < 2 ^ width = mod_below part (2 ^ width) (pow_pos width) in
    let lower : old % 2 ^ low < 2 ^ low = mod_below old (2 ^ low) (pow_pos low) in
    let high = mul-add-lt (old / 2 ^ (low + width)) (2 ^ width) (part % 2 ^ width) (2 ^ (w - (low + width))) upper middle in
    let whole : 2 ^ w ≡ 2 ^ low * (2 ^ width * 2 ^ (w - (low + width))) =
    ap (λ n. 2 ^ n) (sym other) ∙ (pow-add 2 low (width + (w - (low + width))) ∙ ap (λ n. 2 ^ low * n) (pow-add 2 width (w - (low + width)))) in
    subst (λ n. n < 2 ^ w) (sym (replaced_is low width old part))
    (below_step (old / 2 ^ (low + width)) (2 ^ width) (part % 2 ^ width) (2 ^ (w - (low + width))) (2 ^ low) (old % 2 ^ low) (2 ^ w) high lower whole)
