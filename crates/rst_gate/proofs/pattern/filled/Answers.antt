use Rattle.std.proofs.Common.{◌≡◌, ◌≤◌, length}
use Rattle.rst_gate.proofs.Filling.{filled_end}
use Rattle.rst_gate.proofs.pattern.filled.Goals as goal

pub returns-clause-fills : goal.returns-clause-fills
returns-clause-fills c =
    let items : c.as_slice-cube-items.result.now ≡ c.args.pattern.now = c.as_slice-cube-items.ensures in
    let past : length c.args.pattern.now ≤ c.loop-cube.cube-index = rw (← items) c.loop-cube-test.false in
    filled_end c.args.pattern.now c.args.free.now _ c.loop-cube.word c.loop-cube.cube-index past c.loop-cube.invariant.so_far
