use Rattle.std.proofs.Common.{◌≡◌, ◌≤◌, ◌+◌, ◌-◌, ◌^◌, drop, map}
use Rattle.rst_net.specs.Units.{plain_signal, plain_driver}
use Rattle.rst_weight.specs.Weights.{units_weight}
use Rattle.rst_weight.specs.Plain.{cut}
use Rattle.rst_weight.proofs.weights.units_weight.Given as goal

abbrev pub invariant-loop-unit : goal.invariant-loop-unit
invariant-loop-unit l = (l.sum ≤ 2 ^ 64 - 1) × (cut (l.sum + units_weight (map plain_signal l.signals) (map plain_driver (drop l.unit-index l.units))) ≡ cut (l.initial.sum + units_weight (map plain_signal l.signals) (map plain_driver l.units)))
