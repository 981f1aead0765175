use Rattle.std.proofs.Common.{arith}
use Rattle.rst_tree.proofs.Rows.{greatest_target-none}
use Rattle.rst_tree.proofs.heights.+target_heights.Goals as goal

pub greatest_target-returns : goal.greatest_target-returns
greatest_target-returns t c = omega (arith, greatest_target-none c.args.targets.now c.loop-target.target-index)
