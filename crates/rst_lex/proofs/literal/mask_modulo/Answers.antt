use Rattle.std.proofs.Common.{◌^◌}
use Rattle.rst_lex.specs.Literals.{mask_digit}
use Rattle.rst_lex.proofs.Worth.{digit_read, digit_skipped}
use Rattle.rst_lex.proofs.literal.mask_modulo.Goals.{then-b-ne95, else-b-ne95}
use Rattle.rst_lex.proofs.literal.mask_modulo.Goals as goal

pub loop-b-preserved : goal.loop-b-preserved
loop-b-preserved c = elim c.if-b-ne95.branch [
  | then-b-ne95 w ↦ digit_read c.args.radix (mask_digit c.args.radix) c.args.digits.now c.loop-b.b-index (2 ^ 64) c.loop-b.value w.mask_digit.result c.if-b-ne95.value c.loop-b-test.true w.if-b-ne95.true c.loop-b.invariant w.mask_digit.ensures w.value-is
  | else-b-ne95 w ↦ digit_skipped c.args.radix (mask_digit c.args.radix) c.args.digits.now c.loop-b.b-index (2 ^ 64) c.loop-b.value c.if-b-ne95.value c.loop-b-test.true w.if-b-ne95.false c.loop-b.invariant w.value-is
]
