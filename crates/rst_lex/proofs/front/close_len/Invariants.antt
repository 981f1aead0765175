use Rattle.std.proofs.Common.{◌-◌}
use Rattle.rst_lex.proofs.Close.{Passed}
use Rattle.rst_lex.proofs.front.close_len.Given as goal

abbrev pub invariant-loop-i : goal.invariant-loop-i
invariant-loop-i l = Passed l.x l.y l.text (l.i - 1)
