use Rattle.std.proofs.Common.{◌≡◌, ◌+◌, ◌≤◌, drop, map, slice_get}
use Rattle.std.specs.List.{sum_by}
use Rattle.rst_net.specs.Units.{plain_signal}
use Rattle.rst_drivers.specs.FlatRows.{width_or}
use Rattle.rst_drivers.proofs.limits.are_outputs_over.Given as goal

-- what is left completes the sum
abbrev pub invariant-loop-output : goal.invariant-loop-output
invariant-loop-output l = record {
  small : l.sum ≤ l.limit;
  same : l.sum + sum_by (λ o. width_or (slice_get (map plain_signal l.signals) o)) (drop l.output-index l.outputs) ≡ sum_by (λ o. width_or (slice_get (map plain_signal l.signals) o)) l.outputs;
}
