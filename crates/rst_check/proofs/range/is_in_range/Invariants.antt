use Rattle.std.proofs.Common.{take}
use Rattle.rst_clause.specs.Literals.{AreLiterals}
use Rattle.rst_check.proofs.range.is_in_range.Given as goal

abbrev pub invariant-loop-i : goal.invariant-loop-i
invariant-loop-i l = AreLiterals l.vars (take l.i l.clause)
