use Rattle.std.proofs.Common.{length, inl}
use Rattle.rst_pose.proofs.Askings.{cubes_wide}
use Rattle.rst_pairinv.proofs.hops.leaves.Goals as goal

pub first_with-requires-clause-wide : goal.first_with-requires-clause-wide
first_with-requires-clause-wide c =
    cubes_wide c.args.pair.now c.args.blocked.now (length c.in_ok-cycle.cycle.successors) c.requires.hops c.in_ok-cycle.ensures.count

pub returns-then-cycle : goal.returns-then-cycle
returns-then-cycle c = λ yes. inl (c.in_ok-cycle.ensures.apart c.if-cycle.true)
