use Rattle.std.proofs.Common.{◌≡◌, ◌∙◌, ◌+◌, length, ap, arith}
use Rattle.rst_pose.proofs.Askings.{cubes_wide}
use Rattle.rst_pose.specs.Posing.{IsPosable}
use Rattle.rst_pair.specs.declared.query.Query.TheVariants.{Stuck}
use Rattle.rst_pair_rows.proofs.hops.related.Goals as goal

pub in_relation-requires-clause-cubes : goal.in_relation-requires-clause-cubes
in_relation-requires-clause-cubes c =
    let p = c.args.pair.now in
    let left : c.left_gates.inside.states ≡ p.left.states = ap (λ g. g.states) c.left_gates.view_is ∙ ap (λ q. q.left.states) c.pair.view_is in
    let right : c.right_gates.inside.states ≡ p.right.states = ap (λ g. g.states) c.right_gates.view_is ∙ ap (λ q. q.right.states) c.pair.view_is in
    let count : length c.args.both.now ≡ p.left.states + p.right.states = omega (arith, left, right, c.if-right_gates-count.true, c.if-len-count.true, c.len.ensures) in
    let posable : IsPosable p c.args.front.now Stuck = c.is_posable.ensures.0 c.if-is_posable.true in
    cubes_wide p c.args.front.now.blocked (length c.args.both.now) posable.within.front.blocked count
