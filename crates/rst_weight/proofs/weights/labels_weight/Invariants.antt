use Rattle.std.proofs.Common.{◌≡◌, ◌≤◌, ◌+◌, ◌-◌, ◌^◌, drop, map}
use Rattle.rst_net.specs.Statements.{plain_label}
use Rattle.rst_net.specs.Units.{plain_signal}
use Rattle.rst_weight.specs.Weights.{labels_weight}
use Rattle.rst_weight.specs.Plain.{cut}
use Rattle.rst_weight.proofs.weights.labels_weight.Given as goal

abbrev pub invariant-loop-label : goal.invariant-loop-label
invariant-loop-label l = (l.sum ≤ 2 ^ 64 - 1) × (cut (l.sum + labels_weight (map plain_signal l.signals) l.width (map plain_label (drop l.label-index l.labels))) ≡ cut (l.initial.sum + labels_weight (map plain_signal l.signals) l.width (map plain_label l.labels)))
