use Rattle.std.proofs.Common.{◌≡◌, ◌+◌, false, take}
use Rattle.rst_sim.specs.Supports.{narrowed}
use Rattle.rst_sim.proofs.Sets.{narrowed_more}
use Rattle.rst_sim.proofs.closed.narrow.Goals as goal

pub loop-i-preserved : goal.loop-i-preserved
loop-i-preserved c =
    let more = narrowed_more c.args.set.now c.args.other.now c.loop-i.i false false c.loop-i-test.true c.requires in
    let next : c.push.new.self ≡ narrowed (take (c.loop-i.i + 1) c.args.set.now) (take (c.loop-i.i + 1) c.args.other.now) =
    cc (more, c.in_ok-push.ensures.ok, c.in_both.ensures, c.loop-i.invariant) in
    next
