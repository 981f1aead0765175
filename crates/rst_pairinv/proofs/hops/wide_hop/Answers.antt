use Rattle.std.proofs.Common.{◌∙◌, map, ap}
use Rattle.rst_value.specs.Terns.{known}
use Rattle.rst_pairinv.proofs.Leading.{IsOfPair, pair_fits, pair_passes, pair_right, wide_is_good, refined_holds}
use Rattle.rst_pairinv.proofs.hops.wide_hop.Goals as goal

pub widen_blocked-requires-clause-right : goal.widen_blocked-requires-clause-right
widen_blocked-requires-clause-right c =
    let is : IsOfPair c.args.left.now c.args.right.now c.args.input.now c.args.next c.in_ok-hop.hop = record {
      cube = c.in_ok-hop.ensures.cube ∙ ap (map known) (c.as_slice.ensures ∙ c.in_ok-both.ensures);
      input = c.in_ok-hop.ensures.input;
      next = c.in_ok-hop.ensures.next;
    } in
    pair_right c.args.pair.now c.args.front.now.blocked c.args.input.now c.args.left.now c.args.right.now c.args.next c.are_sides.ensures
    c.requires.front.blocked c.requires.input c.requires.states c.requires.earlier c.requires.leads c.in_ok-hop.hop is

pub returns-clause-good : goal.returns-clause-good
returns-clause-good c =
    let p = c.args.pair.now in
    let blocked = c.args.front.now.blocked in
    let is : IsOfPair c.args.left.now c.args.right.now c.args.input.now c.args.next c.in_ok-hop.hop = record {
      cube = c.in_ok-hop.ensures.cube ∙ ap (map known) (c.as_slice.ensures ∙ c.in_ok-both.ensures);
      input = c.in_ok-hop.ensures.input;
      next = c.in_ok-hop.ensures.next;
    } in
    let fits = pair_fits p blocked c.args.input.now c.args.left.now c.args.right.now c.args.next c.are_sides.ensures
    c.requires.front.blocked c.requires.input c.requires.states c.requires.earlier c.requires.leads c.in_ok-hop.hop is in
    let passes = pair_passes p blocked c.args.input.now c.args.left.now c.args.right.now c.args.next c.are_sides.ensures
    c.requires.front.blocked c.requires.input c.requires.states c.requires.earlier c.requires.leads c.in_ok-hop.hop is in
    wide_is_good p blocked c.in_ok-hop.hop c.in_ok-wide.wide fits c.in_ok-wide.ensures.right c.in_ok-wide.ensures.contains
    (c.in_ok-wide.ensures.passes passes) c.in_ok-wide.ensures.widest c.in_ok-wide.ensures.input c.in_ok-wide.ensures.next

pub returns-clause-holds : goal.returns-clause-holds
returns-clause-holds c =
    let cube = c.in_ok-hop.ensures.cube ∙ ap (map known) (c.as_slice.ensures ∙ c.in_ok-both.ensures) in
    let contains = rw cube at c.in_ok-wide.ensures.contains in
    refined_holds c.in_ok-wide.wide.cube _ contains
