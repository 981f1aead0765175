use Rattle.std.proofs.Common.{ℕ, arith}
use Rattle.rst_blocks.specs.Plain.{has}
use Rattle.rst_blocks.proofs.Unknowns.{added}
use Rattle.rst_blocks.proofs.rows.put_listed.Goals as goal

pub loop-signal-preserved : goal.loop-signal-preserved
loop-signal-preserved c =
    added (λ (j : ℕ). j) (has c.args.set.now) (has c.loop-signal.set) (has c.put.new.set) c.args.listens.now c.loop-signal.signal-index _ (omega arith) c.loop-signal.invariant
    c.in_ok-put.ensures.member c.in_ok-put.ensures.others
