use Rattle.std.proofs.Common.{take}
use Rattle.rst_check.proofs.LineSteps.{Assuming}
use Rattle.rst_check.proofs.check.contradicts.Given as goal

abbrev pub invariant-loop-i : goal.invariant-loop-i
invariant-loop-i l = Assuming l.initial.p (take l.i l.line) l.line l.p
