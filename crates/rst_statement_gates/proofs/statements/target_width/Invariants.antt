use Rattle.std.proofs.Common.{◌≡◌, ◌+◌, drop}
use Rattle.rst_cycle.specs.Effects.{target_width}
use Rattle.rst_statement_gates.proofs.statements.target_width.Given as goal

abbrev pub invariant-loop-slice : goal.invariant-loop-slice
invariant-loop-slice l = l.sum + target_width (drop l.slice-index l.target) ≡ target_width l.target
