use Rattle.std.proofs.Common.{◌≡◌, ℕ, ◌||◌, take}
use Rattle.rst_blocks.specs.Plain.{has}
use Rattle.rst_blocks.specs.Blocks.{lists}
use Rattle.rst_blocks.proofs.rows.put_listed.Given as goal

abbrev pub invariant-loop-signal : goal.invariant-loop-signal
invariant-loop-signal l = (i : ℕ) → has l.set i ≡ (has l.initial.set i || lists (take l.signal-index l.listens) i)
