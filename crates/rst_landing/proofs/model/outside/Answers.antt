use Rattle.std.proofs.Common.{◌≡◌, ◌∙◌, ◌+◌, List, length, ap, sym, subst}
use Rattle.std.specs.List.{All}
use Rattle.rst_pair.specs.declared.hop.Hop.{Hop}
use Rattle.rst_pair.specs.Sides.{IsPair}
use Rattle.rst_pair.specs.Hops.{cubes_of}
use Rattle.rst_pose.proofs.Askings.{cubes_wide}
use Rattle.rst_landing.specs.Models.{IsFirstHolding}
use Rattle.rst_landing.proofs.Found.{read_pair, read_word, read_holds, pair_count, is_landing}
use Rattle.rst_landing.proofs.model.outside.Goals as goal

pub end_of-requires-clause-states : goal.end_of-requires-clause-states
end_of-requires-clause-states c =
    read_pair c.args.pair.now c.args.seq.now c.args.bits.now c.in_ok-start.start c.in_ok-start.ensures c.requires.case.count

pub end_of-requires-clause-word : goal.end_of-requires-clause-word
end_of-requires-clause-word c =
    read_word c.args.pair.now c.args.seq.now c.args.bits.now c.in_ok-start.start c.in_ok-start.ensures c.requires.posable.speaks

pub first_holding-cube-requires-clause-wide : goal.first_holding-cube-requires-clause-wide
first_holding-cube-requires-clause-wide c =
    let p = c.args.pair.now in
    let pair : IsPair p c.in_ok-start.start.a c.in_ok-start.start.b =
    read_pair p c.args.seq.now c.args.bits.now c.in_ok-start.start c.in_ok-start.ensures c.requires.case.count in
    let count : length c.in_ok-both.both ≡ p.left.states + p.right.states = ap length c.in_ok-both.ensures ∙ pair_count p c.in_ok-start.start c.are_sides.ensures pair in
    let hops : c.as_slice.result.now ≡ c.args.front.now.blocked = c.as_slice.ensures.value ∙ ap (λ f. f.blocked) c.front.view_is in
    subst (λ (hs : List Hop). All (λ cube. length cube ≡ length c.in_ok-both.both) (cubes_of hs)) (sym hops)
    (cubes_wide p c.args.front.now.blocked (length c.in_ok-both.both) c.requires.posable.within.front.blocked count)

pub first_holding-cube-requires-clause-some : goal.first_holding-cube-requires-clause-some
first_holding-cube-requires-clause-some c =
    let hops : c.as_slice.result.now ≡ c.args.front.now.blocked = c.as_slice.ensures.value ∙ ap (λ f. f.blocked) c.front.view_is in
    let there = read_holds c.args.pair.now c.args.front.now c.args.seq.now c.args.bits.now c.in_ok-both.both c.in_ok-start.start c.in_ok-start.ensures c.requires.case c.in_ok-both.ensures in
    rw hops there

pub returns-clause-lands : goal.returns-clause-lands
returns-clause-lands c =
    let hops : c.as_slice.result.now ≡ c.args.front.now.blocked = c.as_slice.ensures.value ∙ ap (λ f. f.blocked) c.front.view_is in
    let first = subst (λ (hs : List Hop). IsFirstHolding hs c.in_ok-both.both c.first_holding-cube.result) hops c.first_holding-cube.ensures in
    is_landing c.args.pair.now c.args.front.now c.args.seq.now c.args.bits.now c.in_ok-both.both c.in_ok-start.start c.first_holding-cube.result
    c.in_ok-start.ensures c.requires.case c.in_ok-both.ensures first
