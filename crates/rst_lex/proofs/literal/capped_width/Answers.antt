use Rattle.std.proofs.Common.{◌∙◌}
use Rattle.rst_lex.proofs.Worth.{size_read, size_skipped}
use Rattle.rst_lex.proofs.literal.capped_width.Goals.{then-b-ne95, else-b-ne95}
use Rattle.rst_lex.proofs.literal.capped_width.Goals as goal

pub loop-b-preserved : goal.loop-b-preserved
loop-b-preserved c = elim c.if-b-ne95.branch [
  | then-b-ne95 w ↦ size_read c.args.size.now c.loop-b.b-index c.loop-b.value w.digit_value.result c.if-b-ne95.value c.loop-b-test.true w.if-b-ne95.true c.loop-b.invariant w.digit_value.ensures.value (w.value-is ∙ w.min-value.ensures)
  | else-b-ne95 w ↦ size_skipped c.args.size.now c.loop-b.b-index c.loop-b.value c.if-b-ne95.value c.loop-b-test.true w.if-b-ne95.false c.loop-b.invariant w.value-is
]
