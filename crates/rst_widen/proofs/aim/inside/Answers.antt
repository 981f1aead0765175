use Rattle.std.proofs.Common.{◌∙◌, ◌&&◌, ap, sym}
use Rattle.rst_widen.proofs.Loops.{within_both}
use Rattle.rst_widen.proofs.aim.inside.Goals as goal

pub returns-then-first : goal.returns-then-first
returns-then-first c =
    ap (λ a. a && c.lies_within-second.result) (sym c.if-first.true)
    ∙ within_both c.args.cube.now c.args.left.now c.args.right.now c.lies_within-first.result c.lies_within-second.result c.requires
    c.lies_within-first.ensures c.lies_within-second.ensures

pub returns-else-first : goal.returns-else-first
returns-else-first c =
    c.if-first.false
    ∙ ap (λ a. a && c.lies_within-second.result) (sym c.if-first.false)
    ∙ within_both c.args.cube.now c.args.left.now c.args.right.now c.lies_within-first.result c.lies_within-second.result c.requires
    c.lies_within-first.ensures c.lies_within-second.ensures
