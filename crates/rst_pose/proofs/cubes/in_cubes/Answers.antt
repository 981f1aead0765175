use Rattle.std.proofs.Common.{◌≡◌, ◌∙◌, ◌+◌, ◌*◌, length, ap, arith}
use Rattle.rst_pair.proofs.Loops.{cube_wide}
use Rattle.rst_pose.proofs.Growing.{literals_push, grown_twice}
use Rattle.rst_pose.proofs.Turns.{cubes_more}
use Rattle.rst_pose.proofs.cubes.in_cubes.Goals as goal

pub in_cube-requires-clause-wide : goal.in_cube-requires-clause-wide
in_cube-requires-clause-wide c =
    ap length c.as_slice.ensures
    ∙ cube_wide c.args.hops.now (length c.args.values.now) c.loop-hop.hop-index c.hop-item.result c.requires.wide c.loop-hop-test.true c.hop-item.is

pub in_cube-requires-clause-room : goal.in_cube-requires-clause-room
in_cube-requires-clause-room c =
    let wide : length c.as_slice.result.now ≡ length c.args.values.now = in_cube-requires-clause-wide c in
    omega (arith, wide, c.requires.few, c.requires.room, c.loop-hop.invariant.grows, c.loop-hop-test.true)

pub loop-hop-preserved : goal.loop-hop-preserved
loop-hop-preserved c =
    let so_far = c.loop-hop.invariant in
    let one = c.in_ok-one.ensures in
    let wide : length c.as_slice.result.now ≡ length c.args.values.now =
    ap length c.as_slice.ensures
    ∙ cube_wide c.args.hops.now (length c.args.values.now) c.loop-hop.hop-index c.hop-item.result c.requires.wide c.loop-hop-test.true c.hop-item.is in
    record {
      gives = so_far.gives
          ∙ cubes_more c.args.high c.args.hops.now c.args.values.now c.loop-hop.dom.clauses.fixed c.in_cube.new.dom.clauses.fixed c.loop-hop.hop-index
          c.hop-item.result c.loop-hop.found.items c.push.new.self.items c.in_ok-one.one c.loop-hop-test.true c.hop-item.is
          (rw c.as_slice.ensures at one.gives) c.in_ok-push.ensures.items;
      held = literals_push c.loop-hop.dom.clauses.vars c.in_cube.new.dom.clauses.vars c.loop-hop.found.items c.push.new.self.items c.in_ok-one.one
          one.grows.least so_far.held one.held c.in_ok-push.ensures.items;
      grows = grown_twice (1024 * c.loop-hop.hop-index) (length c.as_slice.result.now) (1024 * (c.loop-hop.hop-index + 1)) c.args.dom.now c.loop-hop.dom
          c.in_cube.new.dom so_far.grows one.grows (omega (arith, wide, c.requires.few));
    }
