use Rattle.std.proofs.Common.{◌≡◌, ◌∙◌, refl, ap, sym}
use Rattle.rst_value.specs.declared.tern.Tern.TheVariants.{Unknown}
use Rattle.rst_widen.specs.Widening.{plain_aim}
use Rattle.rst_widen.proofs.Loops.{rest_all}
use Rattle.rst_widen.proofs.Cycles.{set_back, at_again, right_not_tried}
use Rattle.rst_widen.proofs.widen.try_right.Goals as goal

pub returns-else-show-clause-tried : goal.returns-else-show-clause-tried
returns-else-show-clause-tried c = λ bits is.
    let count : c.left.inside.states ≡ c.args.pair.now.left.states = ap (λ g. g.states) c.left.view_is ∙ ap (λ q. q.left.states) c.pair.view_is in
    let rest = rest_all c.left.inside.states c.deref.result.now in
    let outs = rw (rest, count, c.deref.ensures.value, ap (λ q. q.right) c.pair.view_is) at c.in_ok-cycle_into.ensures.outs in
    let nexts = rw (rest, count, c.deref.ensures.value, ap (λ q. q.right) c.pair.view_is) at c.in_ok-cycle_into.ensures.nexts in
    set_back c.args.now.now.cube.items c.args.place Unknown c.index-before.result.now _ (c.requires.place) c.index-before.ensures
    ∙ right_not_tried c.args.pair.now (plain_aim c.args.aim) bits c.args.input.now c.args.now.now.cube.items c.args.place c.args.now.now.left c.cycle_into.new.frame
    c.requires.left is c.requires.at.left_outs c.requires.at.left_nexts outs nexts (sym c.show.ensures ∙ c.if-show.false)

pub returns-else-show-clause-at : goal.returns-else-show-clause-at
returns-else-show-clause-at c =
    at_again c.args.pair.now c.args.input.now c.args.now.now _ c.requires.at
    (set_back c.args.now.now.cube.items c.args.place Unknown c.index-before.result.now _ (c.requires.place) c.index-before.ensures) refl refl
