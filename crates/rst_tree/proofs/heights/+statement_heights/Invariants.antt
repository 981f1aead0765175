use Rattle.std.proofs.Common.{◌≡◌, ◌≤◌, ◌-◌, ◌^◌, min, max, drop}
use Rattle.rst_tree.specs.Statements.{plain_stmts, greatest_of, plain_arms, greatest_of_arms}
use Rattle.rst_tree.proofs.heights.+statement_heights.Given as goal

-- the greatest so far and of those that are left is the greatest of all
abbrev pub invariant-greatest_of-loop-stmt : goal.invariant-greatest_of-loop-stmt
invariant-greatest_of-loop-stmt l = (l.tallest ≤ 2 ^ 32 - 1) × (min (max l.tallest (greatest_of (plain_stmts (drop l.stmt-index l.stmts)))) (2 ^ 32 - 1) ≡ min (greatest_of (plain_stmts l.stmts)) (2 ^ 32 - 1))

abbrev pub invariant-greatest_of_arms-loop-arm : goal.invariant-greatest_of_arms-loop-arm
invariant-greatest_of_arms-loop-arm l = (l.tallest ≤ 2 ^ 32 - 1) × (min (max l.tallest (greatest_of_arms (plain_arms (drop l.arm-index l.arms)))) (2 ^ 32 - 1) ≡ min (greatest_of_arms (plain_arms l.arms)) (2 ^ 32 - 1))
