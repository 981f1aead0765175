use Rattle.std.proofs.Common.{drop}
use Rattle.rst_statement_gates.proofs.Steps.{TargetLeft}
use Rattle.rst_statement_gates.proofs.statements.put_target.Given as goal

abbrev pub invariant-loop-slice : goal.invariant-loop-slice
invariant-loop-slice l = TargetLeft l.fn.wires l.target l.part l.wires l.left (drop l.slice-index l.target)
