use Rattle.std.proofs.Common.{◌≡◌, drop}
use Rattle.rst_report_json.specs.JsonReports.{with_values}
use Rattle.rst_report_json.specs.Objects.{members}
use Rattle.rst_report_json.proofs.values.put_ports.Given as goal

abbrev pub invariant-loop-port : goal.invariant-loop-port
invariant-loop-port l = with_values (drop l.port-index l.ports) l.rest (members l.object) ≡ with_values l.ports l.places (members l.fn.object)
