use Rattle.std.proofs.Common.{◌≡◌, ◌≤◌, drop, false}
use Rattle.rst_tree.specs.Targets.{plain_targets}
use Rattle.rst_width.specs.Scopes.{names_with}
use Rattle.rst_width.specs.Sizing.{sized_parts}
use Rattle.rst_width.specs.Plain.{plain_parts}
use Rattle.rst_width.specs.Cut.{cut_parts}
use Rattle.rst_width.specs.Targets.{target_exprs}
use Rattle.rst_width.proofs.SizingCuts.{followed_by}
use Rattle.rst_width.proofs.targets.+targets.Given as goal

-- the parts so far, and those that are left behind them
abbrev pub invariant-sized_places-loop-target : goal.invariant-sized_places-loop-target
invariant-sized_places-loop-target l = record {
  parts : followed_by (plain_parts l.parts) (sized_parts false (names_with l.scope l.unshaped) (target_exprs (plain_targets (drop l.target-index l.targets)))) ≡ cut_parts (sized_parts false (names_with l.scope l.unshaped) (target_exprs (plain_targets l.targets)));
  cut_width : l.parts.width ≤ 65;
}
