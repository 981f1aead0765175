use Rattle.std.proofs.Common.{◌∙◌, ◌≤◌, arith}
use Rattle.rst_pairinv.proofs.Bits.{sharing_more, free_step}
use Rattle.rst_pairinv.proofs.states.sharing_state.Goals as goal

pub loop-i-preserved : goal.loop-i-preserved
loop-i-preserved c =
    let so_far = c.loop-i.invariant in
    let few : c.free_at-next.result ≤ 1 = free_step _ _ c.free_at-next.ensures in
    record {
      value = so_far.value
          ∙ sharing_more c.args.count c.loop-i.i c.loop-i.next c.free_at-next.result c.args.marks.now c.args.left.now c.args.bits.now
          c.loop-i.state.items c.push.new.self.items c.bit_at-marked.result c.choice.result c.loop-i-test.true c.bit_at-marked.ensures
          (rw (c.bit_at-shared.ensures, c.bit_at-free.ensures) at c.choice.ensures) c.free_at-next.ensures c.in_ok-push.ensures.items;
      most = omega (arith, so_far.most, few);
    }
