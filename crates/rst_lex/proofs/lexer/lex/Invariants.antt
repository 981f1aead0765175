use Rattle.std.proofs.Common.{◌-◌, length}
use Rattle.rst_lex.proofs.LexLoop.{Front}
use Rattle.rst_lex.proofs.lexer.lex.Given as goal

abbrev pub invariant-loop-at : goal.invariant-loop-at
invariant-loop-at l = Front l.text l.at l.tokens.items

abbrev pub decreases-loop-at : goal.decreases-loop-at
decreases-loop-at l = length l.text - l.at
