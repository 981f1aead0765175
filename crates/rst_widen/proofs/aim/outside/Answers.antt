use Rattle.std.proofs.Common.{◌∙◌, ◌&&◌, ◌+◌, ◌++◌, length, drop, ap, sym}
use Rattle.rst_pair.specs.Aims.{contradicts, contradicts_all}
use Rattle.rst_pair.specs.Hops.{cubes_of}
use Rattle.rst_pair.proofs.Loops.{cube_wide}
use Rattle.rst_widen.proofs.Loops.{all_more}
use Rattle.rst_widen.proofs.aim.outside.Goals as goal

pub contradict_both-requires : goal.contradict_both-requires
contradict_both-requires c =
    ap length c.as_slice-cube.ensures
    ∙ cube_wide c.args.hops.now (length c.args.left.now + length c.args.right.now) c.loop-hop.hop-index c.hop-item.result c.requires
    c.loop-hop-test.true c.hop-item.is

pub returns-then-not-contradict_both : goal.returns-then-not-contradict_both
returns-then-not-contradict_both c =
    let shown = c.args.left.now ++ c.args.right.now in
    sym
    (c.loop-hop.invariant
    ∙ all_more c.args.hops.now c.loop-hop.hop-index c.hop-item.result shown c.contradict_both.result c.loop-hop-test.true c.hop-item.is
    (c.contradict_both.ensures ∙ ap (λ cube. contradicts cube shown) c.as_slice-cube.ensures)
    ∙ ap (λ b. b && contradicts_all (cubes_of (drop (c.loop-hop.hop-index + 1) c.args.hops.now)) shown) c.if-not-contradict_both.true)

pub loop-hop-preserved : goal.loop-hop-preserved
loop-hop-preserved c =
    let shown = c.args.left.now ++ c.args.right.now in
    c.loop-hop.invariant
    ∙ all_more c.args.hops.now c.loop-hop.hop-index c.hop-item.result shown c.contradict_both.result c.loop-hop-test.true c.hop-item.is
    (c.contradict_both.ensures ∙ ap (λ cube. contradicts cube shown) c.as_slice-cube.ensures)
    ∙ ap (λ b. b && contradicts_all (cubes_of (drop (c.loop-hop.hop-index + 1) c.args.hops.now)) shown) c.if-not-contradict_both.false
