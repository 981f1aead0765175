use Rattle.std.proofs.Common.{◌≡◌, arith, sym, ap, ◌∙◌}
use Rattle.std.proofs.lemmas.Nat.{xor_lt, or_lt}
use Rattle.std.specs.Prelude.{ℕ, ℤ, int_div, int_rem}
use Rattle.rst_word.specs.Words.{modulo}
use Rattle.rst_word.specs.Binary.{sized_word}
use Rattle.rst_word.specs.Plain.{plain_word}
use Rattle.rst_word.proofs.Divisions.{IsNumber, coded, quotient_is, remainder_is}
use Rattle.rst_word.proofs.word.Word.binary.Goals as goal

pub sized-requires-in-Xor : goal.sized-requires-in-Xor
sized-requires-in-Xor c =
    let same : c.args.a.width ≡ c.args.b.width = rw c.in-Xor.is at c.requires.widths in
    xor_lt _ _ _ c.args.a.fits (rw same c.args.b.fits)

pub sized-requires-in-Or : goal.sized-requires-in-Or
sized-requires-in-Or c =
    let same : c.args.a.width ≡ c.args.b.width = rw c.in-Or.is at c.requires.widths in
    or_lt _ _ _ c.args.a.fits (rw same c.args.b.fits)

pub overflow_sub-ones : goal.overflow_sub-ones
overflow_sub-ones c =
    let same : c.args.a.width ≡ c.args.b.width = rw c.in-Xnor.is at c.requires.widths in
    let below = xor_lt c.args.a.width c.args.a.value c.args.b.value c.args.a.fits (rw same c.args.b.fits) in
    omega (arith, below, c.ones.ensures)

-- what the code divides is what the definition divides
divided : (width : ℕ) (a b : ℤ) (wrapped : ℕ) → IsNumber a → IsNumber b → wrapped ≡ modulo width (coded (int_div (coded a) (coded b))) → wrapped ≡ modulo width (int_div a b)
divided width a b wrapped f g e = e ∙ ap (modulo width) (quotient_is a b f g)

left_over : (width : ℕ) (a b : ℤ) (wrapped : ℕ) → IsNumber a → IsNumber b → wrapped ≡ modulo width (coded (int_rem (coded a) (coded b))) → wrapped ≡ modulo width (int_rem a b)
left_over width a b wrapped f g e = e ∙ ap (modulo width) (remainder_is a b f g)

pub returns-in-Div : goal.returns-in-Div
returns-in-Div c =
    let left : IsNumber c.left_number.result = record { low = c.left_number.ensures.low; high = c.left_number.ensures.high } in
    let right : IsNumber c.right_number.result = record { low = c.right_number.ensures.low; high = c.right_number.ensures.high } in
    let value = divided c.args.a.width c.left_number.result c.right_number.result c.wrap.result left right c.wrap.ensures in
    rw (c.in-Div.is, sym c.left_number.ensures.exact, sym c.right_number.ensures.exact)
    (c.sized-in-Div.ensures ∙ ap (sized_word (plain_word c.args.a) (plain_word c.args.b)) value)

pub returns-in-Rem : goal.returns-in-Rem
returns-in-Rem c =
    let left : IsNumber c.left_number-in-Rem.result = record { low = c.left_number-in-Rem.ensures.low; high = c.left_number-in-Rem.ensures.high } in
    let right : IsNumber c.right_number-in-Rem.result = record { low = c.right_number-in-Rem.ensures.low; high = c.right_number-in-Rem.ensures.high } in
    let value = left_over c.args.a.width c.left_number-in-Rem.result c.right_number-in-Rem.result c.wrap-in-Rem.result left right c.wrap-in-Rem.ensures in
    rw (c.in-Rem.is, sym c.left_number-in-Rem.ensures.exact, sym c.right_number-in-Rem.ensures.exact)
    (c.sized-in-Rem.ensures ∙ ap (sized_word (plain_word c.args.a) (plain_word c.args.b)) value)
