use Rattle.std.proofs.Common.{take}
use Rattle.std.specs.List.{All}
use Rattle.rst_clause.specs.Literals.{Holds}
use Rattle.rst_solve.specs.Choices.{choice_of}
use Rattle.rst_solve.proofs.evaluate.solves.Given as goal

abbrev pub invariant-loop-i : goal.invariant-loop-i
invariant-loop-i l = All (Holds (choice_of l.values)) (take l.i l.clauses)
