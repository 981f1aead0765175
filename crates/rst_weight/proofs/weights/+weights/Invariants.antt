use Rattle.std.proofs.Common.{◌≡◌, ◌≤◌, ◌+◌, ◌-◌, ◌^◌, drop, map}
use Rattle.rst_width.specs.Typed.{plain_all}
use Rattle.rst_net.specs.Units.{plain_signal}
use Rattle.rst_weight.specs.Weights.{list_weight}
use Rattle.rst_weight.specs.Plain.{cut}
use Rattle.rst_weight.proofs.weights.+weights.Given as goal

-- with what is left it is the whole sum
abbrev pub invariant-list_weight-loop-part : goal.invariant-list_weight-loop-part
invariant-list_weight-loop-part l = (l.sum ≤ 2 ^ 64 - 1) × (cut (l.sum + list_weight (map plain_signal l.signals) (plain_all (drop l.part-index l.parts))) ≡ cut (l.initial.sum + list_weight (map plain_signal l.signals) (plain_all l.parts)))
