use Rattle.std.proofs.Common.{◌≡◌, ◌≤◌, ◌-◌, ◌^◌, min, max, drop}
use Rattle.rst_tree.specs.Targets.{plain_targets, greatest_target}
use Rattle.rst_tree.proofs.heights.+target_heights.Given as goal

-- the greatest so far and of those that are left is the greatest of all
abbrev pub invariant-greatest_target-loop-target : goal.invariant-greatest_target-loop-target
invariant-greatest_target-loop-target l = (l.tallest ≤ 2 ^ 32 - 1) × (min (max l.tallest (greatest_target (plain_targets (drop l.target-index l.targets)))) (2 ^ 32 - 1) ≡ min (greatest_target (plain_targets l.targets)) (2 ^ 32 - 1))
