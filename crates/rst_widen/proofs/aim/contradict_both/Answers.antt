use Rattle.std.proofs.Common.{◌∙◌, ◌||◌, ap, sym}
use Rattle.rst_widen.proofs.Loops.{contradicts_both}
use Rattle.rst_widen.proofs.aim.contradict_both.Goals as goal

pub returns-then-first : goal.returns-then-first
returns-then-first c =
    c.if-first.true
    ∙ ap (λ a. a || c.contradict-second.result) (sym c.if-first.true)
    ∙ contradicts_both c.args.cube.now c.args.left.now c.args.right.now c.contradict-first.result c.contradict-second.result c.requires
    c.contradict-first.ensures c.contradict-second.ensures

pub returns-else-first : goal.returns-else-first
returns-else-first c =
    ap (λ a. a || c.contradict-second.result) (sym c.if-first.false)
    ∙ contradicts_both c.args.cube.now c.args.left.now c.args.right.now c.contradict-first.result c.contradict-second.result c.requires
    c.contradict-first.ensures c.contradict-second.ensures
