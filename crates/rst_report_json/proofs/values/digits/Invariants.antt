use Rattle.std.proofs.Common.{◌≡◌, map, take, string_bytes}
use Rattle.rst_report.specs.Rows.{digit}
use Rattle.rst_report.specs.Reports.{free_mark}
use Rattle.rst_report_json.proofs.values.digits.Given as goal

abbrev pub invariant-loop-place : goal.invariant-loop-place
invariant-loop-place l = string_bytes l.text ≡ map (digit free_mark) (take l.place-index l.places)
