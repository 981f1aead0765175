use Rattle.std.proofs.Common.{◌≡◌, ◌+◌, ◌≤◌, drop, map}
use Rattle.rst_net.specs.Units.{plain_signal}
use Rattle.rst_drivers.specs.FlatRows.{counts, bits_where}
use Rattle.rst_drivers.proofs.limits.is_over.Given as goal

-- what is left completes the sum
abbrev pub invariant-loop-signal : goal.invariant-loop-signal
invariant-loop-signal l = record {
  small : l.sum ≤ l.limit;
  same : l.sum + bits_where (counts l.limited) (map plain_signal (drop l.signal-index l.signals)) ≡ bits_where (counts l.limited) (map plain_signal l.signals);
}
