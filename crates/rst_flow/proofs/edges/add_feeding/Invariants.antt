use Rattle.std.proofs.Common.{◌≡◌, ◌++◌, drop}
use Rattle.rst_flow.specs.Tables.{feeding}
use Rattle.rst_flow.proofs.edges.add_feeding.Given as goal

abbrev pub invariant-loop-drive : goal.invariant-loop-drive
invariant-loop-drive l = l.found.items ++ feeding l.own l.slice (drop l.drive-index l.drives) ≡ l.initial.found.items ++ feeding l.own l.slice l.drives
