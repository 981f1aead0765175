use Rattle.std.proofs.Common.{◌+◌, sym, ap, ◌∙◌}
use Rattle.rst_parse.proofs.Cutting.{len_ends, len_goes, len_all}
use Rattle.rst_parse.proofs.pieces.piece_len.Goals as goal

pub returns-then-is_endmodule-clause-value : goal.returns-then-is_endmodule-clause-value
returns-then-is_endmodule-clause-value c =
    ap (λ n. n + 1) c.loop-symbol.invariant.0
    ∙ len_ends c.args.symbols.now c.loop-symbol.symbol-index c.symbol-item.result c.loop-symbol-test.true c.symbol-item.is (sym c.is_endmodule.ensures ∙ c.if-is_endmodule.true) c.loop-symbol.invariant.1

pub loop-symbol-preserved : goal.loop-symbol-preserved
loop-symbol-preserved c = (
  ap (λ n. n + 1) c.loop-symbol.invariant.0,
  len_goes c.args.symbols.now c.loop-symbol.symbol-index c.symbol-item.result c.loop-symbol-test.true c.symbol-item.is (sym c.is_endmodule.ensures ∙ c.if-is_endmodule.false) c.loop-symbol.invariant.1,
)

pub returns-clause-value : goal.returns-clause-value
returns-clause-value c = c.loop-symbol.invariant.0 ∙ len_all c.args.symbols.now c.loop-symbol.symbol-index c.loop-symbol-test.false c.loop-symbol.invariant.1
