use Rattle.std.proofs.Common.{◌^◌}
use Rattle.rst_lex.specs.Literals.{digit_value}
use Rattle.rst_lex.proofs.Worth.{digit_read, digit_skipped}
use Rattle.rst_lex.proofs.literal.number_modulo.Goals.{then-b-ne95, else-b-ne95}
use Rattle.rst_lex.proofs.literal.number_modulo.Goals as goal

pub loop-b-preserved : goal.loop-b-preserved
loop-b-preserved c = elim c.if-b-ne95.branch [
  | then-b-ne95 w ↦ digit_read c.args.radix digit_value c.args.digits.now c.loop-b.b-index (2 ^ 64) c.loop-b.value w.digit_value.result c.if-b-ne95.value c.loop-b-test.true w.if-b-ne95.true c.loop-b.invariant w.digit_value.ensures.value w.value-is
  | else-b-ne95 w ↦ digit_skipped c.args.radix digit_value c.args.digits.now c.loop-b.b-index (2 ^ 64) c.loop-b.value c.if-b-ne95.value c.loop-b-test.true w.if-b-ne95.false c.loop-b.invariant w.value-is
]
