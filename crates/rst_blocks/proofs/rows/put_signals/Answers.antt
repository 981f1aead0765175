use Rattle.std.proofs.Common.{arith}
use Rattle.rst_net.specs.declared.signal.Slice.{Slice}
use Rattle.rst_blocks.specs.Plain.{has}
use Rattle.rst_blocks.proofs.Unknowns.{added}
use Rattle.rst_blocks.proofs.rows.put_signals.Goals as goal

pub loop-slice-preserved : goal.loop-slice-preserved
loop-slice-preserved c =
    added (λ (s : Slice). s.signal) (has c.args.set.now) (has c.loop-slice.set) (has c.put.new.set) c.args.slices.now c.loop-slice.slice-index _ (omega arith) c.loop-slice.invariant
    c.in_ok-put.ensures.member c.in_ok-put.ensures.others
