use Rattle.std.proofs.Common.{◌∙◌, refl, sym, arith, rules}
use Rattle.rst_value.specs.declared.tern.Tern.TheVariants.{Unknown}
use Rattle.rst_widen.specs.Widening.{plain_aim}
use Rattle.rst_widen.proofs.Cycles.{set_back, at_again, left_not_tried}
use Rattle.rst_widen.proofs.widen.try_left.Goals as goal

pub returns-else-show-clause-tried : goal.returns-else-show-clause-tried
returns-else-show-clause-tried c = λ bits is.
    set_back c.args.now.now.cube.items c.args.place Unknown c.index-before.result.now _ (grind (arith, c.requires.place, c.requires.at.cube)) c.index-before.ensures
    ∙ left_not_tried c.args.pair.now (plain_aim c.args.aim) bits c.args.input.now c.args.now.now.cube.items c.args.place c.cycle_into.new.frame c.args.now.now.right
    c.requires.place is (search rules) (search rules) c.requires.at.right_outs c.requires.at.right_nexts (sym c.show.ensures ∙ c.if-show.false)

pub returns-else-show-clause-at : goal.returns-else-show-clause-at
returns-else-show-clause-at c =
    at_again c.args.pair.now c.args.input.now c.args.now.now _ c.requires.at
    (set_back c.args.now.now.cube.items c.args.place Unknown c.index-before.result.now _ (grind (arith, c.requires.place, c.requires.at.cube)) c.index-before.ensures) refl refl
