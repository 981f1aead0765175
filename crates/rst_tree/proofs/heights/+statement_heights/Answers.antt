use Rattle.std.proofs.Common.{arith}
use Rattle.rst_tree.proofs.Rows.{greatest_of-none, greatest_of_arms-none}
use Rattle.rst_tree.proofs.heights.+statement_heights.Goals as goal

pub greatest_of-returns : goal.greatest_of-returns
greatest_of-returns t c = omega (arith, greatest_of-none c.args.stmts.now c.loop-stmt.stmt-index)

pub greatest_of_arms-returns : goal.greatest_of_arms-returns
greatest_of_arms-returns t c = omega (arith, greatest_of_arms-none c.args.arms.now c.loop-arm.arm-index)
