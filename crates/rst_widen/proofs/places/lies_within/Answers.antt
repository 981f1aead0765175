use Rattle.std.proofs.Common.{◌∙◌, ◌&&◌, ◌+◌, ap, sym, drop}
use Rattle.rst_pair.specs.Aims.{is_within}
use Rattle.rst_widen.proofs.Loops.{within_at, within_none}
use Rattle.rst_widen.proofs.places.lies_within.Goals as goal

pub returns-then-not-agree : goal.returns-then-not-agree
returns-then-not-agree c =
    let rest = is_within (drop (c.loop-i.i + 1) c.args.xs.now) (drop (c.loop-i.i + 1) c.args.ys.now) in
    sym
    (c.loop-i.invariant
    ∙ within_at c.args.xs.now c.args.ys.now c.loop-i.i _ _ c.loop-i-test.true c.requires
    ∙ ap (λ b. b && rest) (sym c.agree.ensures ∙ c.if-not-agree.true))

pub loop-i-preserved : goal.loop-i-preserved
loop-i-preserved c =
    let rest = is_within (drop (c.loop-i.i + 1) c.args.xs.now) (drop (c.loop-i.i + 1) c.args.ys.now) in
    c.loop-i.invariant
    ∙ within_at c.args.xs.now c.args.ys.now c.loop-i.i _ _ c.loop-i-test.true c.requires
    ∙ ap (λ b. b && rest) (sym c.agree.ensures ∙ c.if-not-agree.false)

pub returns : goal.returns
returns c = sym (c.loop-i.invariant ∙ within_none c.args.xs.now c.args.ys.now c.loop-i.i c.loop-i-test.false c.requires)
