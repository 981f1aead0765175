-- Quotients and remainders of the numbers of words.
use Rattle.std.proofs.Common.{◌≡◌, ◌^◌, ◌≤◌, arith, ℤ, pos, neg_ℤ, ◌≤ℤ◌, ◌<ℤ◌}
use Rattle.std.specs.Prelude.{int_div, int_rem, FitsSigned, unsigned_abs}
use Rattle.std.specs.Int.{w128, cast_signed, cast_unsigned}
use Rattle.std.proofs.lemmas.Int.{quot_is, rem_is, fits_signed_from_abs, ints}

-- between the least signed and the greatest unsigned number of a word
pub record IsNumber (z : ℤ) : Type 0 where
  pub low : neg_ℤ (pos (2 ^ 63)) ≤ℤ z
  pub high : z <ℤ pos (2 ^ 64)

-- a number through the machine's 128 bits
abbrev pub coded : ℤ → ℤ
coded z = cast_signed w128 (cast_unsigned w128 z)

small : (z : ℤ) → IsNumber z → unsigned_abs z ≤ 2 ^ 64
small z h = grind (arith, ints)

small_fits : (z : ℤ) → IsNumber z → FitsSigned w128 z
small_fits z h = fits_signed_from_abs w128 z (omega (arith, small z h))

quotient_small : (a d : ℤ) → unsigned_abs (int_div a d) ≤ unsigned_abs a
quotient_small a d = grind (arith, ints)

quotient_fits : (a d : ℤ) → IsNumber a → FitsSigned w128 (int_div a d)
quotient_fits a d h = fits_signed_from_abs w128 (int_div a d) (omega (arith, small a h, quotient_small a d))

pub quotient_is : (a d : ℤ) → IsNumber a → IsNumber d → coded (int_div (coded a) (coded d)) ≡ int_div a d
quotient_is a d h k = quot_is w128 a d (small_fits a h) (small_fits d k) (quotient_fits a d h)

pub remainder_is : (a d : ℤ) → IsNumber a → IsNumber d → coded (int_rem (coded a) (coded d)) ≡ int_rem a d
remainder_is a d h k = rem_is w128 a d (small_fits a h) (small_fits d k)
