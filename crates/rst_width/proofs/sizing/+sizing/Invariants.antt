use Rattle.std.proofs.Common.{◌≡◌, ◌≤◌, drop}
use Rattle.rst_tree.specs.Trees.{plain_all}
use Rattle.rst_width.specs.Scopes.{names_with}
use Rattle.rst_width.specs.Sizing.{sized_parts}
use Rattle.rst_width.specs.Plain.{plain_parts}
use Rattle.rst_width.specs.Cut.{cut_parts}
use Rattle.rst_width.proofs.SizingCuts.{followed_by}
use Rattle.rst_width.proofs.sizing.+sizing.Given as goal

-- the parts so far, and those that are left behind them
abbrev pub invariant-sized_parts-loop-expr : goal.invariant-sized_parts-loop-expr
invariant-sized_parts-loop-expr l = record {
  parts : followed_by (plain_parts l.parts) (sized_parts l.constant (names_with l.scope l.unshaped) (plain_all (drop l.expr-index l.exprs))) ≡ cut_parts (sized_parts l.constant (names_with l.scope l.unshaped) (plain_all l.exprs));
  cut_width : l.parts.width ≤ 65;
}
