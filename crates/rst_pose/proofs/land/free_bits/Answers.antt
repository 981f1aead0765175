use Rattle.std.proofs.Common.{◌≡◌, ◌∙◌, ◌≤◌, length, ap, get_or, arith}
use Rattle.rst_gate.specs.Patterns.{free_count}
use Rattle.rst_pose.proofs.Turns.{bits_more, few_free, pattern_place}
use Rattle.rst_pose.proofs.land.free_bits.Goals as goal

at_most : (c : goal.After-free_places) → c.free_places.result ≤ 256
at_most c =
    let wide = pattern_place c.args.pair.now.left.inputs c.args.pattern.now c.loop-cube.cube-index c.cube-item.result c.requires.pattern c.loop-cube-test.true in
    let same : length c.cube-item.result ≡ c.args.pair.now.left.inputs = ap length c.cube-item.is ∙ wide in
    omega (arith, same, few_free c.cube-item.result, c.free_places.ensures, c.requires.small.inputs)

pub overflow_cast-count : goal.overflow_cast-count
overflow_cast-count c = omega (arith, at_most c)

pub overflow_add-count : goal.overflow_add-count
overflow_add-count c = omega (arith, at_most c, c.loop-cube.invariant.few, c.loop-cube-test.true, c.requires.cycles)

pub loop-cube-preserved : goal.loop-cube-preserved
loop-cube-preserved c =
    let more = bits_more c.args.pattern.now c.loop-cube.cube-index c.cube-item.result c.loop-cube-test.true in
    let same : c.free_places.result ≡ free_count (get_or c.args.pattern.now c.loop-cube.cube-index c.cube-item.result) = c.free_places.ensures ∙ ap free_count c.cube-item.is in
    record {
      value = omega (arith, more, same, c.loop-cube.invariant.value);
      few = omega (arith, at_most c, c.loop-cube.invariant.few);
    }
