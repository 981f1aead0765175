use Rattle.std.proofs.Common.{sym, ◌∙◌, arith}
use Rattle.rst_lex.proofs.Close.{found_at, more_at, all_at}
use Rattle.rst_lex.proofs.front.close_len.Goals as goal

pub returns-then-closes-clause-value : goal.returns-then-closes-clause-value
returns-then-closes-clause-value c = found_at c.args.x c.args.y c.args.text.now c.loop-i.i (omega arith) (omega arith) (sym c.closes.ensures ∙ c.if-closes.true) c.loop-i.invariant

pub loop-i-preserved : goal.loop-i-preserved
loop-i-preserved c = more_at c.args.x c.args.y c.args.text.now c.loop-i.i (omega arith) (omega arith) (sym c.closes.ensures ∙ c.if-closes.false) c.loop-i.invariant

pub returns-clause-value : goal.returns-clause-value
returns-clause-value c = all_at c.args.x c.args.y c.args.text.now c.loop-i.i (omega arith) c.loop-i.invariant
