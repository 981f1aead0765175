use Rattle.std.proofs.Common.{◌∙◌, arith}
use Rattle.rst_pose.proofs.Turns.{open_more, open_step}
use Rattle.rst_pose.proofs.states.open_count.Goals as goal

pub loop-i-preserved : goal.loop-i-preserved
loop-i-preserved c =
    let few = open_step _ _ c.open_at-open.ensures in
    record {
      value = c.loop-i.invariant.value
          ∙ open_more c.args.count c.loop-i.i c.args.marks.now c.loop-i.open c.open_at-open.result c.loop-i-test.true c.open_at-open.ensures;
      most = omega (arith, few, c.loop-i.invariant.most);
    }
