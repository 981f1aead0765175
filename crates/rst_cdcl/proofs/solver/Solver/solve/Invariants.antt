use Rattle.std.proofs.Common.{◌≡◌, ◌≤◌, ◌+◌}
use Rattle.rst_cdcl.proofs.solver.Solver.solve.Given as goal

abbrev pub invariant-loop : goal.invariant-loop
invariant-loop l = record {
  vars : l.self.vars ≡ l.fn.self.vars;
  learnt : l.learnt ≤ l.conflicts;
  counted : l.self.conflicts ≤ l.fn.self.conflicts + l.learnt;
}
