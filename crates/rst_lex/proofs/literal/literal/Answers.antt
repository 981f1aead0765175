use Rattle.std.proofs.Common.{refl, ap, bit_and}
use Rattle.std.specs.Int.{bit_not, w64}
use Rattle.rst_lex.proofs.Worth.{value_made, value_below, mask_below, within_word, apart}
use Rattle.rst_lex.proofs.literal.literal.Goals as goal

pub invariant_of-result : goal.invariant_of-result
invariant_of-result c =
    let mask = mask_below c.args.letter c.args.digits.now c.args.width c.mask_of-mask.result c.mask_of-mask.ensures in
    record {
      not_empty = c.requires.some;
      in_word = c.requires.wide;
      value_fits = value_below c.cut.result c.number_modulo.result c.args.width (bit_not w64 c.mask_of-mask.result) c.cut.ensures;
      mask_fits = mask;
      masked_are_zero = apart c.cut.result c.mask_of-mask.result (within_word c.mask_of-mask.result c.args.width c.requires.wide mask);
    }

pub returns : goal.returns
returns c = record {
  has_width = refl;
  has_sign = refl;
  has_mask = c.mask_of-mask.ensures;
  has_value = ap (λ k. bit_and k (bit_not w64 c.mask_of-mask.result))
      (value_made c.args.letter c.args.digits.now c.args.width c.radix_of.result c.number_modulo.result c.cut.result c.radix_of.ensures.value c.number_modulo.ensures c.requires.wide c.cut.ensures);
}
