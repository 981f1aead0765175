-- Bits of numbers as tests.
use Rattle.std.proofs.Common.{◌≡◌, ◌∙◌, inl, inr, ℕ, zero, suc, ◌+◌, ◌-◌, ◌*◌, ◌/◌, ◌%◌, ◌^◌, ◌<◌, ◌≤◌, min, max, Bool, false, not, ◌&&◌, ◌||◌, cond, nat_eq, nat_lt, nat_le, refl, sym, ap, arith}
use Rattle.std.proofs.Math.Nat.{pow-succ'}
use Rattle.std.specs.Int.{bit_at}
use Rattle.std.specs.Int.RustNames.{bit_or}
use Rattle.std.specs.Prelude.{bit_and}
use Rattle.std.proofs.lemmas.Bool.{lt-ltb, le-ltb, le-leb, lt-leb, eq-eqb, ne_eqb, eqb-true, eqb-false, cases_lt, cases_Bool}
use Rattle.std.proofs.lemmas.Nat.{pow_pos, and_mask, mod-pow-add, mod_below, shr_split}
use Rattle.std.proofs.lemmas.Nat.Bits.{bit_at_and, bit_at_or, bit_at-lt, bit_at-zero, bit_at_ones, bit_at_ones_above, bit_at_cat_low, bit_at_cat_high}
use Rattle.rst_net.specs.declared.signal.Slice.{Slice}
use Rattle.rst_drivers.specs.Drives.{is_set, any_below}
use Rattle.rst_drivers.specs.Counts.{ones, bits_of}
use Rattle.rst_drivers.proofs.Tests.{or_false, or_true}

-- ---- and, or

max_one : (x y : ℕ) → x < 2 → y < 2 → nat_eq (max x y) 1 ≡ (nat_eq x 1 || nat_eq y 1)
max_one zero zero h k = refl
max_one zero (suc zero) h k = refl
max_one (suc zero) zero h k = refl
max_one (suc zero) (suc zero) h k = refl
max_one (suc (suc x)) y h k = absurd (omega arith)
max_one zero (suc (suc y)) h k = absurd (omega arith)
max_one (suc zero) (suc (suc y)) h k = absurd (omega arith)

min_one : (x y : ℕ) → x < 2 → y < 2 → nat_eq (min x y) 1 ≡ (nat_eq x 1 && nat_eq y 1)
min_one zero zero h k = refl
min_one zero (suc zero) h k = refl
min_one (suc zero) zero h k = refl
min_one (suc zero) (suc zero) h k = refl
min_one (suc (suc x)) y h k = absurd (omega arith)
min_one zero (suc (suc y)) h k = absurd (omega arith)
min_one (suc zero) (suc (suc y)) h k = absurd (omega arith)

pub set_or : (a b i : ℕ) → is_set (bit_or a b) i ≡ (is_set a i || is_set b i)
set_or a b i = ap (λ n. nat_eq n 1) (bit_at_or a b i) ∙ max_one (bit_at a i) (bit_at b i) (bit_at-lt a i) (bit_at-lt b i)

pub set_and : (a b i : ℕ) → is_set (bit_and a b) i ≡ (is_set a i && is_set b i)
set_and a b i = ap (λ n. nat_eq n 1) (bit_at_and a b i) ∙ min_one (bit_at a i) (bit_at b i) (bit_at-lt a i) (bit_at-lt b i)

-- ---- the bits of a slice

-- a place below 64 has the bits of the number before it was cut
uncut : (n i : ℕ) → i < 64 → bit_at (n % 2 ^ 64) i ≡ bit_at n i
uncut n i h = sym (bit_at_cat_low (n / 2 ^ 64) 64 (n % 2 ^ 64) i h) ∙ ap (λ m. bit_at m i) (shr_split n 64)

plus_zero : (n : ℕ) → n ≡ n + 0
plus_zero n = omega arith

moved_below : (a low i : ℕ) → i < low → bit_at (a * 2 ^ low) i ≡ 0
moved_below a low i h = ap (λ m. bit_at m i) (plus_zero (a * 2 ^ low)) ∙ bit_at_cat_low a low 0 i h ∙ bit_at-zero i

moved_above : (a low i : ℕ) → low ≤ i → bit_at (a * 2 ^ low) i ≡ bit_at a (i - low)
moved_above a low i h = ap (λ m. bit_at m i) (plus_zero (a * 2 ^ low)) ∙ bit_at_cat_high a low 0 i (pow_pos low) h

-- a place of so many ones, moved up
moved_ones : (w low i : ℕ) → i < 64 → nat_eq (bit_at (ones w * 2 ^ low) i) 1 ≡ (nat_le low i && nat_lt i (low + w))
moved_ones w low i h = elim (cases_lt i low) [
  | inl below ↦ ap (λ m. nat_eq m 1) (moved_below (ones w) low i below) ∙ sym (ap (λ t. t && nat_lt i (low + w)) (lt-leb low i below))
  | inr above ↦
      ap (λ m. nat_eq m 1) (moved_above (ones w) low i above)
      ∙ elim (cases_lt i (low + w)) as (λ _. nat_eq (bit_at (ones w) (i - low)) 1 ≡ (nat_le low i && nat_lt i (low + w))) [
        | inl inside ↦
            ap (λ m. nat_eq m 1) (bit_at_ones (min w 64) (i - low) (omega arith))
            ∙ sym (ap (λ t. t && nat_lt i (low + w)) (le-leb low i above) ∙ lt-ltb i (low + w) inside)
        | inr past ↦
            ap (λ m. nat_eq m 1) (bit_at_ones_above (min w 64) (i - low) (omega arith))
            ∙ sym (ap (λ t. t && nat_lt i (low + w)) (le-leb low i above) ∙ le-ltb i (low + w) past)
      ]
]

pub slice_bits : (s : Slice) (i : ℕ) → i < 64 → is_set (bits_of s) i ≡ (nat_le s.low i && nat_lt i (s.low + s.width))
slice_bits s i h = elim (cases_lt s.low 64) [
  | inl low ↦
      ap (λ t. is_set (cond t (ones s.width * 2 ^ s.low % 2 ^ 64) 0) i) (lt-ltb s.low 64 low)
      ∙ ap (λ m. nat_eq m 1) (uncut (ones s.width * 2 ^ s.low) i h) ∙ moved_ones s.width s.low i h
  | inr high ↦
      let none : i < s.low = omega arith in
      ap (λ t. is_set (cond t (ones s.width * 2 ^ s.low % 2 ^ 64) 0) i) (le-ltb s.low 64 high)
      ∙ ap (λ m. nat_eq m 1) (bit_at-zero i) ∙ sym (ap (λ t. t && nat_lt i (s.low + s.width)) (lt-leb s.low i none))
]

-- ---- the lowest bits

pub any_below-same : (n : ℕ) (f g : ℕ → Bool) → ((i : ℕ) → i < n → f i ≡ g i) → any_below n f ≡ any_below n g
unfolding any_below
any_below-same zero f g h = refl
any_below-same (suc n) f g h = ap (λ t. t || f n) (any_below-same n f g (λ i below. h i (omega arith))) ∙ ap (λ t. any_below n g || t) (h n (omega arith))

one_suc : (n : ℕ) → suc n ≡ 1 + n
one_suc n = omega arith

-- a number of one more bit
higher : (x n : ℕ) → x % 2 ^ suc n ≡ bit_at x n * 2 ^ n + x % 2 ^ n
higher x n = ap (λ m. x % 2 ^ m) (one_suc n) ∙ mod-pow-add x 1 n

no_bits : (x : ℕ) → x % 1 ≡ 0
no_bits x = omega (arith, mod_below x 1 (omega arith))

one_here : (b r p : ℕ) → b < 2 → 0 < p → not (nat_eq (b * p + r) 0) ≡ (not (nat_eq r 0) || nat_eq b 1)
one_here zero r p h pos =
    let same : 0 * p + r ≡ r = omega arith in
    ap (λ n. not (nat_eq n 0)) same ∙ or_false (not (nat_eq r 0))
one_here (suc zero) r p h pos = ap not (ne_eqb (1 * p + r) 0 (λ e. omega arith)) ∙ or_true (not (nat_eq r 0))
one_here (suc (suc b)) r p h pos = absurd (omega arith)

low_ones : (x n : ℕ) → not (nat_eq (x % 2 ^ n) 0) ≡ any_below n (is_set x)
unfolding any_below
low_ones x zero = ap (λ m. not (nat_eq m 0)) (no_bits x)
low_ones x (suc n) =
    ap (λ m. not (nat_eq m 0)) (higher x n) ∙ one_here (bit_at x n) (x % 2 ^ n) (2 ^ n) (bit_at-lt x n) (pow_pos n)
    ∙ ap (λ t. t || is_set x n) (low_ones x n)

zero_here : (b r p : ℕ) → b < 2 → r < p → not (nat_eq (b * p + r) (2 * p - 1)) ≡ (not (nat_eq r (p - 1)) || not (nat_eq b 1))
zero_here zero r p h below = ap not (ne_eqb (0 * p + r) (2 * p - 1) (λ e. omega arith)) ∙ or_true (not (nat_eq r (p - 1)))
zero_here (suc zero) r p h below = elim (cases_Bool (nat_eq r (p - 1))) [
  | inl same ↦
      let r_is : r ≡ p - 1 = eqb-true r (p - 1) same in
      ap not (eq-eqb (1 * p + r) (2 * p - 1) (omega arith)) ∙ sym (ap (λ t. not t || false) same)
  | inr other ↦
      let r_not : r ≡ p - 1 → ⊥ = eqb-false r (p - 1) other in
      ap not (ne_eqb (1 * p + r) (2 * p - 1) (λ e. r_not (omega arith))) ∙ sym (ap (λ t. not t || false) other)
]
zero_here (suc (suc b)) r p h below = absurd (omega arith)

twice_of : (n : ℕ) → 2 ^ suc n ≡ 2 * 2 ^ n
twice_of n = pow-succ' 2 n

low_zeros : (x n : ℕ) → not (nat_eq (x % 2 ^ n) (2 ^ n - 1)) ≡ any_below n (λ i. not (is_set x i))
unfolding any_below
low_zeros x zero = ap (λ m. not (nat_eq m 0)) (no_bits x)
low_zeros x (suc n) =
    ap (λ m. not (nat_eq m (2 ^ suc n - 1))) (higher x n) ∙ ap (λ m. not (nat_eq (bit_at x n * 2 ^ n + x % 2 ^ n) (m - 1))) (twice_of n)
    ∙ zero_here (bit_at x n) (x % 2 ^ n) (2 ^ n) (bit_at-lt x n) (mod_below x (2 ^ n) (pow_pos n))
    ∙ ap (λ t. t || not (is_set x n)) (low_zeros x n)

-- a mask of so many ones
masked : (x w : ℕ) → w ≤ 64 → bit_and x (ones w) ≡ x % 2 ^ w
masked x w h = ap (λ k. bit_and x (2 ^ k - 1)) (least w h) ∙ and_mask x w
  where
    least : (w : ℕ) → w ≤ 64 → min w 64 ≡ w
    least w h = omega arith

pub has_one-is : (x w : ℕ) → w ≤ 64 → not (nat_eq (bit_and x (ones w)) 0) ≡ any_below w (is_set x)
has_one-is x w h = ap (λ m. not (nat_eq m 0)) (masked x w h) ∙ low_ones x w

pub has_zero-is : (x w : ℕ) → w ≤ 64 → not (nat_eq (bit_and x (ones w)) (ones w)) ≡ any_below w (λ i. not (is_set x i))
has_zero-is x w h =
    ap (λ m. not (nat_eq m (ones w))) (masked x w h) ∙ ap (λ k. not (nat_eq (x % 2 ^ w) (2 ^ k - 1))) (least w h) ∙ low_zeros x w
  where
    least : (w : ℕ) → w ≤ 64 → min w 64 ≡ w
    least w h = omega arith
