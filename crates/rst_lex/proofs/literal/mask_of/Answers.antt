use Rattle.rst_lex.proofs.Worth.{mask_made}
use Rattle.rst_lex.proofs.literal.mask_of.Goals as goal

pub returns : goal.returns
returns c =
    mask_made c.args.letter c.args.digits.now c.args.width c.radix_of.result c.mask_modulo-mask.result c.missing_bits.result c.cut.result c.radix_of.ensures.value c.mask_modulo-mask.ensures c.missing_bits.ensures c.requires.wide c.cut.ensures
