use Rattle.std.proofs.Common.{◌+◌, ◌-◌, ◌/◌, arith}
use Rattle.rst_statement_gates.proofs.Marking.{below_more, above_more}
use Rattle.rst_statement_gates.proofs.marks.place.Goals as goal

pub loop-low-preserved-then-marks-middle : goal.loop-low-preserved-then-marks-middle
loop-low-preserved-then-marks-middle c =
    let middle = c.loop-low.low + (c.loop-low.high - c.loop-low.low) / 2 in
    record {
      order = omega arith;
      within = c.loop-low.invariant.within;
      below = below_more c.args.count c.args.marks.now c.args.signal middle c.requires (omega arith) c.if-marks-middle.true;
      above = c.loop-low.invariant.above;
    }

pub loop-low-preserved : goal.loop-low-preserved
loop-low-preserved c =
    let middle = c.loop-low.low + (c.loop-low.high - c.loop-low.low) / 2 in
    record {
      order = omega arith;
      within = omega arith;
      below = c.loop-low.invariant.below;
      above = above_more c.args.count c.args.marks.now c.args.signal middle c.requires c.if-marks-middle.false;
    }
