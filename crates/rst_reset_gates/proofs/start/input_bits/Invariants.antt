use Rattle.std.proofs.Common.{◌≡◌, ◌+◌, drop, map}
use Rattle.rst_net.specs.declared.signal.Role.TheVariants as role
use Rattle.rst_net.specs.Units.{plain_signal}
use Rattle.rst_reset_gates.specs.NodeWords.{role_bits}
use Rattle.rst_reset_gates.proofs.start.input_bits.Given as goal

abbrev pub invariant-loop-signal : goal.invariant-loop-signal
invariant-loop-signal l = l.sum + role_bits role.Input (map plain_signal (drop l.signal-index l.signals)) ≡ role_bits role.Input (map plain_signal l.signals)
