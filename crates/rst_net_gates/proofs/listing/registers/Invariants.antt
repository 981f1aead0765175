use Rattle.std.proofs.Common.{◌≡◌, ◌++◌, drop, map}
use Rattle.rst_net.specs.declared.signal.Role.TheVariants.{Register}
use Rattle.rst_net.specs.Units.{plain_signal}
use Rattle.rst_cycle.specs.Signals.{with_role_from, with_role}
use Rattle.rst_net_gates.specs.Netlists.{numbers_of}
use Rattle.rst_net_gates.proofs.listing.registers.Given as goal

abbrev pub invariant-loop-k : goal.invariant-loop-k
invariant-loop-k l = l.numbers.items ++ numbers_of (with_role_from l.k Register (map plain_signal (drop l.k l.signals))) ≡ numbers_of (with_role Register (map plain_signal l.signals))
