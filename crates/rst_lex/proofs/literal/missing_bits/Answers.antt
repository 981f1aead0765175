use Rattle.std.proofs.Common.{◌≡◌, ◌≤◌, ◌*◌, ◌-◌, ◌^◌, ℕ, sym, ap, subst, ◌∙◌, arith}
use Rattle.rst_lex.specs.Literals.{digit_count, digit_bits}
use Rattle.rst_lex.proofs.Worth.{missing_none, missing_some, ones_grow}
use Rattle.rst_lex.proofs.literal.missing_bits.Goals as goal

same_product : (a b c d : ℕ) → a ≡ b → c ≡ d → a * c ≡ b * d
same_product a b c d e f = λ i. e i * f i

less_than : (a b c d w : ℕ) → a ≡ b → c ≡ d → w ≤ a * c → w ≤ b * d
less_than a b c d w e f le = subst (λ k. w ≤ k) (same_product a b c d e f) le

pub returns-then-given-width : goal.returns-then-given-width
returns-then-given-width c =
    missing_none c.args.letter c.args.digits.now c.args.width (sym c.begins_masked.ensures ∙ c.if-not-begins_masked.false)
    (less_than c.digit_count.result (digit_count c.args.digits.now) c.digit_bits.result (digit_bits c.args.letter) c.args.width c.digit_count.ensures.value c.digit_bits.ensures.value c.if-given-width.true)

pub overflow_sub-result : goal.overflow_sub-result
overflow_sub-result c =
    let grow = ones_grow (c.digit_count.result * c.digit_bits.result) c.args.width (omega arith) in
    omega (arith, grow, c.ones.ensures, c.ones-2.ensures)

pub returns : goal.returns
returns c =
    (λ i. c.ones.ensures i - (c.ones-2.ensures ∙ ap (λ k. 2 ^ k - 1) (same_product c.digit_count.result (digit_count c.args.digits.now) c.digit_bits.result (digit_bits c.args.letter) c.digit_count.ensures.value c.digit_bits.ensures.value)) i)
    ∙ missing_some c.args.letter c.args.digits.now c.args.width (sym c.begins_masked.ensures ∙ c.if-not-begins_masked.false)
