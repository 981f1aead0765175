use Rattle.std.proofs.Common.{◌≡◌, ◌++◌, drop}
use Rattle.rst_report.specs.Rows.{cycle_rows}
use Rattle.rst_report.proofs.rows.put_rows.Given as goal

abbrev pub invariant-loop-number : goal.invariant-loop-number
invariant-loop-number l = l.text ++ cycle_rows l.mark l.ports l.number (drop l.number l.cycles) ≡ l.fn.text ++ cycle_rows l.mark l.ports 0 l.cycles
