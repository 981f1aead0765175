-- What symbols spell is well formed: expressions, targets and statements.
use Rattle.std.proofs.Common.{List, Bool, true, false}
use Rattle.rst_tree.specs.Trees as trees
use Rattle.rst_tree.specs.Trees.{Tree, Trees, Number, Name, Paren, Unary, Binary, Choose, Repeat, Signed, Unsigned}
use Rattle.rst_tree.specs.Targets as targets
use Rattle.rst_tree.specs.Targets.{Place, Places, Whole}
use Rattle.rst_tree.specs.Statements.{Statement, Statements, Arms, Block, If, IfElse, Case, Set, Empty, end, more, no_arm, labels, otherwise}
use Rattle.rst_tree.specs.WellFormed.{HasTree, Formed, AllFormed, HasTarget, FormedTarget, AllFormedTargets, FormedLabel, FormedLabels, FormedStmt, AllFormedStmts, FormedArms}
use Rattle.rst_grammar.specs.declared.symbol.Symbol.{Symbol}
use Rattle.rst_grammar.specs.Expressions.{Spells, SpellsAll, SpellsMore}
use Rattle.rst_grammar.specs.Targets.{SpellsTarget, SpellsTargets, SpellsMoreTargets}
use Rattle.rst_grammar.specs.Statements.{SpellsLabel, SpellsMoreLabels, SpellsLabels, SpellsStmt, SpellsStmts, SpellsArms}

some_trees : (es : Trees) (ts : List Symbol) → SpellsAll es ts → HasTree es
some_trees trees.end ts p = absurd p
some_trees (trees.more e es) ts p = tt

mutual
  pub tree_formed : (e : Tree) (ts : List Symbol) → Spells e ts → Formed e
  tree_formed (Number n) ts p = p.0
  tree_formed (Name n) ts p = tt
  tree_formed (trees.Bit n i) ts p = tree_formed i p.right.right.first p.right.right.left
  tree_formed (trees.Part n h l) ts p =
      (tree_formed h p.right.right.first p.right.right.left, tree_formed l p.right.right.right.right.first p.right.right.right.right.left)
  tree_formed (Paren e) ts p = tree_formed e p.right.first p.right.left
  tree_formed (Unary op e) ts p = tree_formed e p.1.second p.1.right
  tree_formed (Binary op a b) ts p = (tree_formed a p.2.first p.2.left, tree_formed b p.2.right.second p.2.right.right)
  tree_formed (Choose c a b) ts p =
      (tree_formed c p.1.first p.1.left, tree_formed a p.1.right.right.first p.1.right.right.left, tree_formed b p.1.right.right.right.second p.1.right.right.right.right)
  tree_formed (trees.Join es) ts p = (some_trees es p.right.first p.right.left, all_formed es p.right.first p.right.left)
  tree_formed (Repeat n es) ts p =
      (tree_formed n p.right.first p.right.left, some_trees es p.right.right.right.first p.right.right.right.left, all_formed es p.right.right.right.first p.right.right.right.left)
  tree_formed (Signed e) ts p = tree_formed e p.right.right.first p.right.right.left
  tree_formed (Unsigned e) ts p = tree_formed e p.right.right.first p.right.right.left

  all_formed : (es : Trees) (ts : List Symbol) → SpellsAll es ts → AllFormed es
  all_formed trees.end ts p = absurd p
  all_formed (trees.more e es) ts p = (tree_formed e p.first p.left, more_formed es p.second p.right)

  more_formed : (es : Trees) (ts : List Symbol) → SpellsMore es ts → AllFormed es
  more_formed trees.end ts p = tt
  more_formed (trees.more e es) ts p = (tree_formed e p.right.first p.right.left, more_formed es p.right.second p.right.right)

some_targets : (xs : Places) (ts : List Symbol) → SpellsTargets xs ts → HasTarget xs
some_targets targets.end ts p = absurd p
some_targets (targets.more x xs) ts p = tt

mutual
  pub target_formed : (x : Place) (ts : List Symbol) → SpellsTarget x ts → FormedTarget x
  target_formed (Whole n) ts p = tt
  target_formed (targets.Bit n i) ts p = tree_formed i p.right.right.first p.right.right.left
  target_formed (targets.Part n h l) ts p =
      (tree_formed h p.right.right.first p.right.right.left, tree_formed l p.right.right.right.right.first p.right.right.right.right.left)
  target_formed (targets.Join xs) ts p = (some_targets xs p.right.first p.right.left, targets_formed xs p.right.first p.right.left)

  targets_formed : (xs : Places) (ts : List Symbol) → SpellsTargets xs ts → AllFormedTargets xs
  targets_formed targets.end ts p = absurd p
  targets_formed (targets.more x xs) ts p = (target_formed x p.first p.left, more_targets_formed xs p.second p.right)

  more_targets_formed : (xs : Places) (ts : List Symbol) → SpellsMoreTargets xs ts → AllFormedTargets xs
  more_targets_formed targets.end ts p = tt
  more_targets_formed (targets.more x xs) ts p = (target_formed x p.right.first p.right.left, more_targets_formed xs p.right.second p.right.right)

label_formed : (wild : Bool) (e : Tree) (ts : List Symbol) → SpellsLabel wild e ts → FormedLabel wild e
label_formed true (Number n) ts p = tt
label_formed wild e ts p = tree_formed e ts p

more_labels_formed : (wild : Bool) (es : Trees) (ts : List Symbol) → SpellsMoreLabels wild es ts → FormedLabels wild es
more_labels_formed wild trees.end ts p = tt
more_labels_formed wild (trees.more e es) ts p = (label_formed wild e p.right.first p.right.left, more_labels_formed wild es p.right.second p.right.right)

some_labels : (wild : Bool) (es : Trees) (ts : List Symbol) → SpellsLabels wild es ts → HasTree es
some_labels wild trees.end ts p = absurd p
some_labels wild (trees.more e es) ts p = tt

labels_formed : (wild : Bool) (es : Trees) (ts : List Symbol) → SpellsLabels wild es ts → FormedLabels wild es
labels_formed wild trees.end ts p = absurd p
labels_formed wild (trees.more e es) ts p = (label_formed wild e p.first p.left, more_labels_formed wild es p.second p.right)

mutual
  pub stmt_formed : (s : Statement) (ts : List Symbol) → SpellsStmt s ts → FormedStmt s
  stmt_formed (Block ss) ts p = stmts_formed ss p.right.right.first p.right.right.left
  stmt_formed (If c s) ts p =
      (tree_formed c p.right.right.first p.right.right.left, stmt_formed s p.right.right.right.second p.right.right.right.right)
  stmt_formed (IfElse c s t) ts p =
      let q = p.1.right.right in
      (tree_formed c q.first q.left, stmt_formed s q.right.right.first q.right.right.left, stmt_formed t q.right.right.right.second q.right.right.right.right)
  stmt_formed (Case wild e arms) ts p =
      let q = p.2.right.right in
      (tree_formed e q.first q.left, p.0, p.1, arms_formed arms wild q.right.right.first q.right.right.left)
  stmt_formed (Set t e blocking) ts p = (target_formed t p.first p.left, tree_formed e p.right.right.first p.right.right.left)
  stmt_formed Empty ts p = tt

  stmts_formed : (ss : Statements) (ts : List Symbol) → SpellsStmts ss ts → AllFormedStmts ss
  stmts_formed end ts p = tt
  stmts_formed (more s ss) ts p = (stmt_formed s p.first p.left, stmts_formed ss p.second p.right)

  arms_formed : (arms : Arms) (wild : Bool) (ts : List Symbol) → SpellsArms arms wild ts → FormedArms arms wild
  arms_formed no_arm wild ts p = tt
  arms_formed (labels es s others) wild ts p =
      let q = p.right.right in
      (some_labels wild es p.first p.left, labels_formed wild es p.first p.left, stmt_formed s q.first q.left, arms_formed others wild q.second q.right)
  arms_formed (otherwise s others) wild ts p =
      let q = p.right.right in
      (stmt_formed s q.first q.left, arms_formed others wild q.second q.right)
