-- Powers of two, and numbers below them.
use Rattle.std.proofs.Common.{◌≡◌, ℕ, ◌+◌, ◌-◌, ◌*◌, ◌/◌, ◌%◌, ◌^◌, ◌<◌, ◌≤◌, Bool, true, false, arith, ap, sym, ◌∙◌, subst}
use Rattle.std.proofs.lemmas.Nat.{pow-add, one_shl, mul-add-lt, pow_below, shr_below}
use Rattle.std.proofs.Math.Nat.{mul-mod_left, div-eq_of_lt, mul_assoc}
use Rattle.rst_word.specs.Words.{filled}

-- powers rise
pub pow_rises : (i j : ℕ) → i ≤ j → 2 ^ i ≤ 2 ^ j
pow_rises i j h = grind (arith, pow_below)

-- the code's powers
pub shifted_rises : (i j : ℕ) → i ≤ j → j ≤ 64 → 1 * 2 ^ i % 2 ^ 128 ≤ 1 * 2 ^ j % 2 ^ 128
shifted_rises i j h k = rw (one_shl i 128 (omega arith), one_shl j 128 (omega arith)) (pow_rises i j h)

-- ones above a number leave it below the next power
pub filled_fits : (fill : Bool) (value from to : ℕ) → value < 2 ^ from → from ≤ to → value + filled fill from to < 2 ^ to
filled_fits true value from to h k = omega (arith, pow_rises from to k)
filled_fits false value from to h k = omega (arith, pow_rises from to k)

-- a join fits
pub joined_fits : (a b i j : ℕ) → a < 2 ^ i → b < 2 ^ j → a * 2 ^ j + b < 2 ^ (i + j)
joined_fits a b i j h k = rw (pow-add 2 i j) (omega (arith, mul-add-lt a (2 ^ j) b (2 ^ i) h k))

-- places at or above the width leave nothing below it
pub moved_out : (value places width : ℕ) → width ≤ places → value * 2 ^ places % 2 ^ width ≡ 0
moved_out value places width h =
    let split : places ≡ places - width + width = omega arith in
    let product : value * 2 ^ places ≡ value * 2 ^ (places - width) * 2 ^ width =
    ap (λ p. value * 2 ^ p) split ∙ (ap (λ p. value * p) (pow-add 2 (places - width) width) ∙ sym (mul_assoc value (2 ^ (places - width)) (2 ^ width))) in
    rw product (mul-mod_left (value * 2 ^ (places - width)) (2 ^ width))

pub moved_away : (value places width : ℕ) → width ≤ places → value < 2 ^ width → value / 2 ^ places ≡ 0
moved_away value places width h k = div-eq_of_lt (let rises = pow_rises width places h in omega (arith, rises))

-- a number moved down, with ones above it
pub moved_down_fits : (fill : Bool) (value places width : ℕ) → places < width → value < 2 ^ width → value / 2 ^ places + filled fill (width - places) width < 2 ^ width
moved_down_fits fill value places width h k =
    let split : width ≡ width - places + places = omega arith in
    let below : value < 2 ^ (width - places + places) = subst (λ n. value < 2 ^ n) split k in
    filled_fits fill (value / 2 ^ places) (width - places) width (shr_below value (width - places) places below) (omega arith)
