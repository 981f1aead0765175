use Rattle.std.proofs.Common.{◌≡◌, ◌≤◌, ◌+◌, ◌-◌, ◌^◌, drop}
use Rattle.rst_cycle.specs.Drivers.{target_has}
use Rattle.rst_weight.specs.Counts.{bits_among}
use Rattle.rst_weight.specs.Plain.{cut}
use Rattle.rst_weight.proofs.counts.bits_among.Given as goal

abbrev pub invariant-loop-index : goal.invariant-loop-index
invariant-loop-index l = (l.sum ≤ 2 ^ 64 - 1) × (cut (l.sum + bits_among (target_has (drop l.index l.slices)) l.count) ≡ cut (bits_among (target_has l.slices) l.count))
