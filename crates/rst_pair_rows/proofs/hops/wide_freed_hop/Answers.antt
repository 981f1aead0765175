use Rattle.std.proofs.Common.{sym, subst}
use Rattle.rst_pair.specs.Aims.{Leads, LeadsAll}
use Rattle.rst_pair.specs.Aims.Aim'.{Outside}
use Rattle.rst_pair.specs.Hops.{cubes_of, freed_aim}
use Rattle.rst_pair_rows.proofs.Pairs.{one_pair_right}
use Rattle.rst_pair_rows.proofs.hops.wide_freed_hop.Goals as goal

pub widen_freed-requires-clause-right : goal.widen_freed-requires-clause-right
widen_freed-requires-clause-right c =
    let e = c.in_ok-hop.ensures in
    let p = c.args.pair.now in
    let aim = Outside (cubes_of c.args.front.now.blocked) in
    let leads : Leads p aim c.args.input.now c.args.left.now c.args.right.now = c.in_ok-leads_out.ensures c.if-not-branch.false in
    let all = one_pair_right p aim c.args.left.now c.args.right.now c.args.input.now c.in_ok-hop.hop.cube e.cube c.requires.left leads in
    subst (λ next. LeadsAll p (freed_aim c.args.front.now.blocked c.args.front.now.freed next) c.in_ok-hop.hop.cube c.in_ok-hop.hop.input) (sym e.next)
    (subst (λ input. LeadsAll p aim c.in_ok-hop.hop.cube input) (sym e.input) all)
