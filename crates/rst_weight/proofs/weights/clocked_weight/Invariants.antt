use Rattle.std.proofs.Common.{◌≡◌, ◌≤◌, ◌+◌, ◌-◌, ◌^◌, drop, map}
use Rattle.rst_net.specs.Units.{plain_signal, plain_process}
use Rattle.rst_weight.specs.Weights.{clocked_weight}
use Rattle.rst_weight.specs.Plain.{cut}
use Rattle.rst_weight.proofs.weights.clocked_weight.Given as goal

abbrev pub invariant-loop-process : goal.invariant-loop-process
invariant-loop-process l = (l.sum ≤ 2 ^ 64 - 1) × (cut (l.sum + clocked_weight (map plain_signal l.signals) (map plain_process (drop l.process-index l.clocked))) ≡ cut (l.initial.sum + clocked_weight (map plain_signal l.signals) (map plain_process l.clocked)))
