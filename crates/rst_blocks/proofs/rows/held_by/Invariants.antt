use Rattle.std.proofs.Common.{◌≡◌, ℕ, false}
use Rattle.std.specs.BTreeSet.{btree_set_len}
use Rattle.rst_net.specs.Statements.{plain_stmt}
use Rattle.rst_blocks.specs.Plain.{has}
use Rattle.rst_blocks.specs.Blocks.{HoldsNone}
use Rattle.rst_blocks.proofs.rows.held_by.Given as goal

-- signals that aren't left aren't held
abbrev pub invariant-loop-signal : goal.invariant-loop-signal
invariant-loop-signal l = (i : ℕ) → has l.signals i ≡ false → HoldsNone (plain_stmt l.body) i

abbrev pub decreases-loop-signal : goal.decreases-loop-signal
decreases-loop-signal l = btree_set_len l.signals
