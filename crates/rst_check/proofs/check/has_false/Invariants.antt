use Rattle.rst_check.specs.Lines.{IsGrown}
use Rattle.rst_check.proofs.check.has_false.Given as goal

abbrev pub invariant-loop-i : goal.invariant-loop-i
invariant-loop-i l = IsGrown l.initial.p l.p
