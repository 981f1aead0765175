use Rattle.std.proofs.Common.{◌+◌, ◌-◌, ◌*◌, ◌^◌, ◌<◌, get_or, sym, ◌∙◌, arith}
use Rattle.rst_script.specs.Numbers.{digit_value}
use Rattle.rst_script.proofs.NumberFacts.{passes, all_read}
use Rattle.rst_script.proofs.numbers.read_number.Goals as goal

pub returns-in_err-checked_mul : goal.returns-in_err-checked_mul
returns-in_err-checked_mul c =
    let large : 2 ^ 64 - 1 < c.loop-b.value * c.args.radix + digit_value (get_or c.args.digits.now c.loop-b.b-index 0) = omega (arith, c.in_err-checked_mul.ensures) in
    c.from_residual.ensures
    ∙ (sym (passes c.args.radix c.loop-b.value (2 ^ 64 - 1) c.args.digits.now c.loop-b.b-index (omega arith) c.requires large) ∙ c.loop-b.invariant.read)

pub returns-in_err-value : goal.returns-in_err-value
returns-in_err-value c =
    let large : 2 ^ 64 - 1 < c.loop-b.value * c.args.radix + digit_value (get_or c.args.digits.now c.loop-b.b-index 0) =
    omega (arith, c.in_err-value.ensures, c.in_ok-checked_mul.ensures, c.digit_value-digit.ensures.value) in
    c.from_residual-in_err-value.ensures
    ∙ (sym (passes c.args.radix c.loop-b.value (2 ^ 64 - 1) c.args.digits.now c.loop-b.b-index (omega arith) c.requires large) ∙ c.loop-b.invariant.read)

pub returns : goal.returns
returns c = sym (all_read c.args.radix c.loop-b.value (2 ^ 64 - 1) c.args.digits.now c.loop-b.b-index c.loop-b-test.false c.loop-b.invariant.fits) ∙ c.loop-b.invariant.read
