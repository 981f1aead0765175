use Rattle.std.proofs.Common.{◌≡◌, take, map}
use Rattle.rst_net.specs.Units.{plain_signal}
use Rattle.rst_ports.specs.Ports.{output_ports}
use Rattle.rst_ports.proofs.ports.outputs.Given as goal

abbrev pub invariant-loop-number : goal.invariant-loop-number
invariant-loop-number l = l.ports ≡ output_ports (map plain_signal l.signals) (take l.number-index l.numbers)
