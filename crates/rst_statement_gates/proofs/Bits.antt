-- The bits of marks.
use Rattle.std.proofs.Common.{◌≡◌, ◌∙◌, ◌⊎◌, inl, inr, ℕ, zero, suc, ◌+◌, ◌-◌, ◌*◌, ◌/◌, ◌%◌, ◌^◌, ◌<◌, ◌≤◌, min, max, Bool, true, false, not, ◌&&◌, ◌||◌, cond, nat_eq, nat_lt, refl, sym, ap, arith}
use Rattle.std.specs.Int.{bit_at}
use Rattle.std.specs.Int.RustNames.{bit_or}
use Rattle.std.proofs.lemmas.Bool.{lt-ltb, le-ltb, cases_lt}
use Rattle.std.proofs.lemmas.Nat.{pow_pos, shr_split}
use Rattle.std.proofs.lemmas.Nat.Bits.{bit_at_or, bit_at-lt, bit_at-zero, bit_at_ones, bit_at_ones_above, bit_at_cat_low, bit_at_cat_high}
use Rattle.rst_net.specs.declared.signal.Slice.{Slice}
use Rattle.rst_cycle.specs.Bits.{has_bit}
use Rattle.rst_statement_gates.specs.Marks.{ones, slice_mask}

max_one : (x y : ℕ) → x < 2 → y < 2 → nat_eq (max x y) 1 ≡ (nat_eq x 1 || nat_eq y 1)
max_one zero zero h k = refl
max_one zero (suc zero) h k = refl
max_one (suc zero) zero h k = refl
max_one (suc zero) (suc zero) h k = refl
max_one (suc (suc x)) y h k = absurd (omega arith)
max_one zero (suc (suc y)) h k = absurd (omega arith)
max_one (suc zero) (suc (suc y)) h k = absurd (omega arith)

pub either_bit : (a b i : ℕ) → has_bit (bit_or a b) i ≡ (has_bit a i || has_bit b i)
either_bit a b i = ap (λ n. nat_eq n 1) (bit_at_or a b i) ∙ max_one (bit_at a i) (bit_at b i) (bit_at-lt a i) (bit_at-lt b i)

-- a place below 64 has the bits of the number before it was cut
uncut : (n i : ℕ) → i < 64 → bit_at (n % 2 ^ 64) i ≡ bit_at n i
uncut n i h = sym (bit_at_cat_low (n / 2 ^ 64) 64 (n % 2 ^ 64) i h) ∙ ap (λ m. bit_at m i) (shr_split n 64)

plus_zero : (n : ℕ) → n ≡ n + 0
plus_zero n = omega arith

moved_below : (a low i : ℕ) → i < low → bit_at (a * 2 ^ low) i ≡ 0
moved_below a low i h = ap (λ m. bit_at m i) (plus_zero (a * 2 ^ low)) ∙ bit_at_cat_low a low 0 i h ∙ bit_at-zero i

moved_above : (a low i : ℕ) → low ≤ i → bit_at (a * 2 ^ low) i ≡ bit_at a (i - low)
moved_above a low i h = ap (λ m. bit_at m i) (plus_zero (a * 2 ^ low)) ∙ bit_at_cat_high a low 0 i (pow_pos low) h

-- a place of so many ones, moved up
moved_ones : (w low i : ℕ) → i < 64 → nat_eq (bit_at (ones w * 2 ^ low) i) 1 ≡ (not (nat_lt i low) && nat_lt i (low + w))
moved_ones w low i h = elim (cases_lt i low) [
  | inl below ↦ ap (λ m. nat_eq m 1) (moved_below (ones w) low i below) ∙ sym (ap (λ t. not t && nat_lt i (low + w)) (lt-ltb i low below))
  | inr above ↦
      ap (λ m. nat_eq m 1) (moved_above (ones w) low i above)
      ∙ elim (cases_lt i (low + w)) as (λ _. nat_eq (bit_at (ones w) (i - low)) 1 ≡ (not (nat_lt i low) && nat_lt i (low + w))) [
        | inl inside ↦
            ap (λ m. nat_eq m 1) (bit_at_ones (min w 64) (i - low) (omega arith))
            ∙ sym (ap (λ t. not t && nat_lt i (low + w)) (le-ltb i low above) ∙ lt-ltb i (low + w) inside)
        | inr past ↦
            ap (λ m. nat_eq m 1) (bit_at_ones_above (min w 64) (i - low) (omega arith))
            ∙ sym (ap (λ t. not t && nat_lt i (low + w)) (le-ltb i low above) ∙ le-ltb i (low + w) past)
      ]
]

pub slice_bits : (s : Slice) (i : ℕ) → i < 64 → has_bit (slice_mask s) i ≡ (not (nat_lt i s.low) && nat_lt i (s.low + s.width))
slice_bits s i h = elim (cases_lt s.low 64) [
  | inl low ↦
      ap (λ t. has_bit (cond t (ones s.width * 2 ^ s.low % 2 ^ 64) 0) i) (lt-ltb s.low 64 low)
      ∙ ap (λ m. nat_eq m 1) (uncut (ones s.width * 2 ^ s.low) i h) ∙ moved_ones s.width s.low i h
  | inr high ↦
      let none : i < s.low = omega arith in
      ap (λ t. has_bit (cond t (ones s.width * 2 ^ s.low % 2 ^ 64) 0) i) (le-ltb s.low 64 high)
      ∙ ap (λ m. nat_eq m 1) (bit_at-zero i) ∙ sym (ap (λ t. not t && nat_lt i (s.low + s.width)) (lt-ltb i s.low none))
]
