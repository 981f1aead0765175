use Rattle.std.proofs.Common.{◌∙◌, ◌||◌, ◌+◌, ap, sym, drop}
use Rattle.rst_pair.specs.Aims.{contradicts}
use Rattle.rst_widen.proofs.Loops.{contradicts_at, contradicts_none}
use Rattle.rst_widen.proofs.places.contradict.Goals as goal

pub returns-then-opposite : goal.returns-then-opposite
returns-then-opposite c =
    let rest = contradicts (drop (c.loop-i.i + 1) c.args.xs.now) (drop (c.loop-i.i + 1) c.args.ys.now) in
    sym
    (c.loop-i.invariant
    ∙ contradicts_at c.args.xs.now c.args.ys.now c.loop-i.i _ _ c.loop-i-test.true c.requires
    ∙ ap (λ b. b || rest) (sym c.opposite.ensures ∙ c.if-opposite.true))

pub loop-i-preserved : goal.loop-i-preserved
loop-i-preserved c =
    let rest = contradicts (drop (c.loop-i.i + 1) c.args.xs.now) (drop (c.loop-i.i + 1) c.args.ys.now) in
    c.loop-i.invariant
    ∙ contradicts_at c.args.xs.now c.args.ys.now c.loop-i.i _ _ c.loop-i-test.true c.requires
    ∙ ap (λ b. b || rest) (sym c.opposite.ensures ∙ c.if-opposite.false)

pub returns : goal.returns
returns c = sym (c.loop-i.invariant ∙ contradicts_none c.args.xs.now c.args.ys.now c.loop-i.i c.loop-i-test.false)
