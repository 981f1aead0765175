use Rattle.std.proofs.Common.{◌≡◌, ◌++◌, map, drop}
use Rattle.rst_net.specs.declared.signal.Role.TheVariants as role
use Rattle.rst_net.specs.Units.{plain_signal}
use Rattle.rst_ports.specs.Ports.{ports_with}
use Rattle.rst_ports.proofs.ports.registers.Given as goal

abbrev pub invariant-loop-signal : goal.invariant-loop-signal
invariant-loop-signal l = l.ports ++ ports_with role.Register (map plain_signal (drop l.signal-index l.signals)) ≡ ports_with role.Register (map plain_signal l.signals)
