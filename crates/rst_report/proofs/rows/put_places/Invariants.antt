use Rattle.std.proofs.Common.{◌≡◌, ◌++◌, map, take}
use Rattle.rst_report.specs.Rows.{digit}
use Rattle.rst_report.proofs.rows.put_places.Given as goal

abbrev pub invariant-loop-place : goal.invariant-loop-place
invariant-loop-place l = l.text ≡ l.fn.text ++ map (digit l.mark) (take l.place-index l.places)
