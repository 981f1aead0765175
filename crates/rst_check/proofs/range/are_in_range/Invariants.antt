use Rattle.std.proofs.Common.{take}
use Rattle.rst_clause.specs.Literals.{AreClauses}
use Rattle.rst_check.proofs.range.are_in_range.Given as goal

abbrev pub invariant-loop-i : goal.invariant-loop-i
invariant-loop-i l = AreClauses l.vars (take l.i l.log)
