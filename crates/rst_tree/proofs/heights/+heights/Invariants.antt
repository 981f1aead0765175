use Rattle.std.proofs.Common.{◌≡◌, ◌≤◌, ◌-◌, ◌^◌, min, max, drop}
use Rattle.rst_tree.specs.Trees.{plain_all, greatest}
use Rattle.rst_tree.proofs.heights.+heights.Given as goal

-- the greatest so far and of those that are left is the greatest of all
abbrev pub invariant-greatest-loop-expr : goal.invariant-greatest-loop-expr
invariant-greatest-loop-expr l = (l.tallest ≤ 2 ^ 32 - 1) × (min (max l.tallest (greatest (plain_all (drop l.expr-index l.exprs)))) (2 ^ 32 - 1) ≡ min (greatest (plain_all l.exprs)) (2 ^ 32 - 1))
