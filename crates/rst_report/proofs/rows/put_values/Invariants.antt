use Rattle.std.proofs.Common.{◌≡◌, ◌++◌, drop}
use Rattle.rst_report.specs.Rows.{values_text}
use Rattle.rst_report.proofs.rows.put_values.Given as goal

abbrev pub invariant-loop-port : goal.invariant-loop-port
invariant-loop-port l = l.text ++ values_text l.mark (drop l.port-index l.ports) l.rest ≡ l.fn.text ++ values_text l.mark l.ports l.places
