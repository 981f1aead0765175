use Rattle.std.proofs.Common.{◌≡◌, ◌≤◌, ◌+◌, ◌-◌, ◌^◌, drop, map}
use Rattle.rst_net.specs.Statements.{plain_stmts, plain_arms}
use Rattle.rst_net.specs.Units.{plain_signal}
use Rattle.rst_weight.specs.Weights.{stmts_weight, arms_weight}
use Rattle.rst_weight.specs.Plain.{cut}
use Rattle.rst_weight.proofs.weights.+stmt_weights.Given as goal

-- with what is left it is the whole sum
abbrev pub invariant-stmts_weight-loop-part : goal.invariant-stmts_weight-loop-part
invariant-stmts_weight-loop-part l = (l.sum ≤ 2 ^ 64 - 1) × (cut (l.sum + stmts_weight (map plain_signal l.signals) (plain_stmts (drop l.part-index l.parts))) ≡ cut (l.initial.sum + stmts_weight (map plain_signal l.signals) (plain_stmts l.parts)))

abbrev pub invariant-arms_weight-loop-arm : goal.invariant-arms_weight-loop-arm
invariant-arms_weight-loop-arm l = (l.sum ≤ 2 ^ 64 - 1) × (cut (l.sum + arms_weight (map plain_signal l.signals) l.width l.bits (plain_arms (drop l.arm-index l.arms))) ≡ cut (l.initial.sum + arms_weight (map plain_signal l.signals) l.width l.bits (plain_arms l.arms)))
