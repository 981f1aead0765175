use Rattle.std.proofs.Common.{◌≡◌, ◌+◌, drop}
use Rattle.rst_report.specs.Heads.{width_sum}
use Rattle.rst_report.proofs.head.width_sum.Given as goal

abbrev pub invariant-loop-port : goal.invariant-loop-port
invariant-loop-port l = l.sum + width_sum (drop l.port-index l.ports) ≡ width_sum l.ports
