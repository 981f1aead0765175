use Rattle.std.proofs.Common.{sym, subst}
use Rattle.rst_pair.specs.Aims.{Leads, LeadsAll}
use Rattle.rst_pair.specs.Aims.Aim'.{Differ}
use Rattle.rst_pair.specs.Hops.{blocked_aim}
use Rattle.rst_pair_rows.proofs.Pairs.{one_pair_right}
use Rattle.rst_pair_rows.proofs.hops.wide_hop.Goals as goal

pub widen_blocked-requires-clause-right : goal.widen_blocked-requires-clause-right
widen_blocked-requires-clause-right c =
    let e = c.in_ok-hop.ensures in
    let p = c.args.pair.now in
    let leads : Leads p Differ c.args.input.now c.args.left.now c.args.right.now = c.in_ok-tells_apart.ensures c.if-not-branch.false in
    let all = one_pair_right p Differ c.args.left.now c.args.right.now c.args.input.now c.in_ok-hop.hop.cube e.cube c.requires.left leads in
    subst (λ next. LeadsAll p (blocked_aim c.args.front.now.blocked next) c.in_ok-hop.hop.cube c.in_ok-hop.hop.input) (sym e.next)
    (subst (λ input. LeadsAll p Differ c.in_ok-hop.hop.cube input) (sym e.input) all)
