use Rattle.std.proofs.Common.{◌≡◌, take}
use Rattle.rst_solve.specs.Tree.{decisions, denied}
use Rattle.rst_solve.proofs.levels.Levels.denied.Given as goal

abbrev pub invariant-loop-i : goal.invariant-loop-i
invariant-loop-i l = l.clause ≡ denied (decisions (take l.i l.self))
