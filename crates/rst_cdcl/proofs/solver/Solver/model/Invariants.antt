use Rattle.std.proofs.Common.{◌≡◌, length}
use Rattle.rst_cdcl.proofs.solver.Solver.model.Given as goal

abbrev pub invariant-loop-variable : goal.invariant-loop-variable
invariant-loop-variable l = length l.bits.items ≡ l.variable
