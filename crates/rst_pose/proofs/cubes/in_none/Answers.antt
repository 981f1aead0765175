use Rattle.std.proofs.Common.{◌≡◌, ◌∙◌, ◌+◌, ◌*◌, length, ap, arith}
use Rattle.rst_pair.proofs.Loops.{cube_wide}
use Rattle.rst_pose.proofs.Growing.{grown_twice}
use Rattle.rst_pose.proofs.Turns.{none_more}
use Rattle.rst_pose.proofs.cubes.in_none.Goals as goal

pub with_none-requires-clause-wide : goal.with_none-requires-clause-wide
with_none-requires-clause-wide c =
    ap length c.as_slice.ensures
    ∙ cube_wide c.args.hops.now (length c.args.values.now) c.loop-hop.hop-index c.hop-item.result c.requires.wide c.loop-hop-test.true c.hop-item.is

pub with_none-requires-clause-room : goal.with_none-requires-clause-room
with_none-requires-clause-room c =
    let wide : length c.as_slice.result.now ≡ length c.args.values.now = with_none-requires-clause-wide c in
    omega (arith, wide, c.requires.few, c.requires.room, c.loop-hop.invariant.grows, c.loop-hop-test.true)

pub loop-hop-preserved : goal.loop-hop-preserved
loop-hop-preserved c =
    let so_far = c.loop-hop.invariant in
    let one = c.in_ok-so_far.ensures in
    let wide : length c.as_slice.result.now ≡ length c.args.values.now =
    ap length c.as_slice.ensures
    ∙ cube_wide c.args.hops.now (length c.args.values.now) c.loop-hop.hop-index c.hop-item.result c.requires.wide c.loop-hop-test.true c.hop-item.is in
    record {
      gives = so_far.gives
          ∙ none_more c.args.high c.loop-hop.so_far c.in_ok-so_far.so_far c.args.hops.now c.args.values.now c.loop-hop.dom.clauses.fixed
          c.with_none.new.dom.clauses.fixed c.loop-hop.hop-index c.hop-item.result c.loop-hop-test.true c.hop-item.is (rw c.as_slice.ensures at one.gives);
      held = one.held;
      grows = grown_twice (1025 * c.loop-hop.hop-index) (length c.as_slice.result.now + 1) (1025 * (c.loop-hop.hop-index + 1)) c.args.dom.now c.loop-hop.dom
          c.with_none.new.dom so_far.grows one.grows (omega (arith, wide, c.requires.few));
    }
