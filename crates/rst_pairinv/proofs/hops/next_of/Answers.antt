use Rattle.std.proofs.Common.{length}
use Rattle.rst_pose.proofs.Askings.{cubes_wide}
use Rattle.rst_pairinv.proofs.Leading.{leads_by}
use Rattle.rst_pairinv.proofs.hops.next_of.Goals as goal

pub returns-then-cycle-clause-leads : goal.returns-then-cycle-clause-leads
returns-then-cycle-clause-leads c = c.in_ok-cycle.ensures.apart c.if-cycle.true

pub first_with-requires-clause-wide : goal.first_with-requires-clause-wide
first_with-requires-clause-wide c =
    cubes_wide c.args.pair.now c.args.blocked.now (length c.in_ok-cycle.cycle.successors) c.requires.hops c.in_ok-cycle.ensures.count

pub returns-clause-earlier : goal.returns-clause-earlier
returns-clause-earlier c =
    (leads_by c.args.pair.now c.args.blocked.now c.args.input.now c.args.left.now c.args.right.now c.first_with.result
    (c.in_ok-cycle.ensures.alike c.if-cycle.false) c.requires.leaves (rw c.in_ok-cycle.ensures.successors at c.first_with.ensures.found)
    (rw c.in_ok-cycle.ensures.successors at c.first_with.ensures.none)).0

pub returns-clause-leads : goal.returns-clause-leads
returns-clause-leads c =
    (leads_by c.args.pair.now c.args.blocked.now c.args.input.now c.args.left.now c.args.right.now c.first_with.result
    (c.in_ok-cycle.ensures.alike c.if-cycle.false) c.requires.leaves (rw c.in_ok-cycle.ensures.successors at c.first_with.ensures.found)
    (rw c.in_ok-cycle.ensures.successors at c.first_with.ensures.none)).1
