use Rattle.std.proofs.Common.{◌≡◌, map, take}
use Rattle.serde_json.specs.View.{view}
use Rattle.rst_report_json.specs.JsonReports.{values_data}
use Rattle.rst_report_json.proofs.values.pattern_value.Given as goal

abbrev pub invariant-loop-places : goal.invariant-loop-places
invariant-loop-places l = map view l.objects.items ≡ map (values_data l.ports) (take l.places-index l.cycles)
