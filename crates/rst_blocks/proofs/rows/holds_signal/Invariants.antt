use Rattle.std.proofs.Common.{◌≡◌, ◌<◌, ℕ, false}
use Rattle.rst_net.specs.Statements.{plain_stmt}
use Rattle.rst_blocks.specs.Blocks.{is_held}
use Rattle.rst_blocks.proofs.rows.holds_signal.Given as goal

abbrev pub invariant-loop-place : goal.invariant-loop-place
invariant-loop-place l = (p : ℕ) → p < l.place → is_held (plain_stmt l.body) l.signal p ≡ false
