use Rattle.std.proofs.Common.{◌≡◌, ℕ, ◌||◌, take}
use Rattle.rst_blocks.specs.Plain.{has}
use Rattle.rst_blocks.specs.Blocks.{names}
use Rattle.rst_blocks.proofs.rows.put_signals.Given as goal

abbrev pub invariant-loop-slice : goal.invariant-loop-slice
invariant-loop-slice l = (i : ℕ) → has l.set i ≡ (has l.initial.set i || names (take l.slice-index l.slices) i)
