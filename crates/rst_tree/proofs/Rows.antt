-- The rows of a tree in memory are the lists of its plain form.
use Rattle.std.proofs.Common.{◌≡◌, ◌∙◌, refl, sym, ap, ℕ, zero, suc, ◌+◌, max, ◌<◌, ◌≤◌, List, [], ◌∷◌, ◌++◌, take, drop, length, get_or, add-one, arith}
use Rattle.std.proofs.Math.Seq.{take-suc}
use Rattle.std.proofs.lemmas.List.{at_drop_all}
use Rattle.std.specs.declared.vec.Vec.{Vec}
use Rattle.std.specs.declared.boxed.Box.{Box}
use Rattle.std.specs.declared.alloc.Global.{Global}
use mathlib.Core.Former.{Count}
use Rattle.rst_tree.specs.declared.expr.Expr.{Expr, Row_of-Expr, end_of-Expr, more_of-Expr, items-the_row-Expr, items_hidden-the_row-Expr-0}
use Rattle.rst_tree.specs.declared.expr.Expr.TheBlock.{hidden-the_row-Expr-0}
use Rattle.rst_tree.specs.declared.expr.Expr.TheVariants as expr
use Rattle.rst_tree.specs.declared.expr.Target.{Target, Row_of-Target, end_of-Target, more_of-Target, items-the_row-Target, items_hidden-the_row-Target-0}
use Rattle.rst_tree.specs.declared.expr.Target.TheBlock.{hidden-the_row-Target-0}
use Rattle.rst_tree.specs.declared.expr.Target.TheVariants as target
use Rattle.rst_tree.specs.declared.stmt.Stmt.{Stmt, Row_of-Stmt, end_of-Stmt, more_of-Stmt, Row_of-Arm, end_of-Arm, more_of-Arm, items-the_row-Stmt, items_hidden-the_row-Stmt-0, items-the_row-Arm, items_hidden-the_row-Arm-1}
use Rattle.rst_tree.specs.declared.stmt.Arm.TheBlock.{hidden-the_row-Stmt-0, hidden-the_row-Arm-1}
use Rattle.rst_tree.specs.declared.stmt.Stmt.TheVariants as stmt
use Rattle.rst_tree.specs.declared.stmt.Arm.{Arm}
use Rattle.rst_tree.specs.declared.stmt.Arm.TheVariants as arm
use Rattle.rst_tree.specs.declared.stmt.CaseStmt.{CaseStmt}
use Rattle.rst_tree.specs.Targets as targets
use Rattle.rst_tree.specs.Targets.{plain_target, plain_targets, plain_target_row, greatest_target}
use Rattle.rst_tree.specs.Statements as statements
use Rattle.rst_tree.specs.Statements.{plain_stmt, plain_stmts, plain_arms, plain_stmt_row, plain_arm_row, Block, Case, labels, otherwise, greatest_of, greatest_of_arms}
use Rattle.rst_tree.specs.Trees.{Tree, Trees, plain, plain_row, plain_all, end, more, appended, Join, Repeat, greatest, height}

plain_row-items : {n : Count} (k : Row_of-Expr n) → plain_row k ≡ plain_all (items-the_row-Expr n k)
plain_row-items end_of-Expr = refl
plain_row-items (more_of-Expr x xs) = ap (more (plain x)) (plain_row-items xs)

pub plain_row-hidden : (v : Vec Expr Global) → plain_row (hidden-the_row-Expr-0 v) ≡ plain_all v.items
plain_row-hidden v = plain_row-items (hidden-the_row-Expr-0 v) ∙ ap plain_all (items_hidden-the_row-Expr-0 v)

pub plain-Join : (v : Vec Expr Global) → plain (expr.Join v) ≡ Join (plain_all v.items)
plain-Join v = ap Join (plain_row-hidden v)

pub plain-Repeat : (b : Box Expr Global) (v : Vec Expr Global) → plain (expr.Repeat b v) ≡ Repeat (plain b.value) (plain_all v.items)
plain-Repeat b v = ap (Repeat (plain b.value)) (plain_row-hidden v)

pub height-Repeat : (b : Box Expr Global) (v : Vec Expr Global) → height (plain (expr.Repeat b v)) ≡ suc (max (height (plain b.value)) (greatest (plain_all v.items)))
height-Repeat b v = ap height (plain-Repeat b v)

pub ruleset rows = (plain-Join, height-Repeat)

plain_target_row-items : {n : Count} (k : Row_of-Target n) → plain_target_row k ≡ plain_targets (items-the_row-Target n k)
plain_target_row-items end_of-Target = refl
plain_target_row-items (more_of-Target x xs) = ap (targets.more (plain_target x)) (plain_target_row-items xs)

pub plain_target-Join : (v : Vec Target Global) → plain_target (target.Join v) ≡ targets.Join (plain_targets v.items)
plain_target-Join v = ap targets.Join (plain_target_row-items (hidden-the_row-Target-0 v) ∙ ap plain_targets (items_hidden-the_row-Target-0 v))

pub ruleset target_rows = (plain_target-Join)

plain_stmt_row-items : {n : Count} (k : Row_of-Stmt n) → plain_stmt_row k ≡ plain_stmts (items-the_row-Stmt n k)
plain_stmt_row-items end_of-Stmt = refl
plain_stmt_row-items (more_of-Stmt x xs) = ap (statements.more (plain_stmt x)) (plain_stmt_row-items xs)

plain_arm_row-items : {n : Count} (k : Row_of-Arm n) → plain_arm_row k ≡ plain_arms (items-the_row-Arm n k)
plain_arm_row-items end_of-Arm = refl
plain_arm_row-items (more_of-Arm (arm.Labels es s) xs) = ap (labels (plain_all es.items) (plain_stmt s)) (plain_arm_row-items xs)
plain_arm_row-items (more_of-Arm (arm.Otherwise s) xs) = ap (otherwise (plain_stmt s)) (plain_arm_row-items xs)

pub plain_stmt-Block : (v : Vec Stmt Global) → plain_stmt (stmt.Block v) ≡ Block (plain_stmts v.items)
plain_stmt-Block v = ap Block (plain_stmt_row-items (hidden-the_row-Stmt-0 v) ∙ ap plain_stmts (items_hidden-the_row-Stmt-0 v))

pub plain_stmt-Case : (c : CaseStmt) → plain_stmt (stmt.Case c) ≡ Case c.wild (plain c.selector) (plain_arms c.arms.items)
plain_stmt-Case c = ap (Case c.wild (plain c.selector)) (plain_arm_row-items (hidden-the_row-Arm-1 c.arms) ∙ ap plain_arms (items_hidden-the_row-Arm-1 c.arms))

pub ruleset statement_rows = (plain_stmt-Block, plain_stmt-Case)

-- behind the last index there is none
pub greatest-none : (xs : List Expr) (i : ℕ) → length xs ≤ i → greatest (plain_all (drop i xs)) ≡ 0
greatest-none xs i h = at_drop_all (λ ys. greatest (plain_all ys)) xs i h

pub greatest_target-none : (xs : List Target) (i : ℕ) → length xs ≤ i → greatest_target (plain_targets (drop i xs)) ≡ 0
greatest_target-none xs i h = at_drop_all (λ ys. greatest_target (plain_targets ys)) xs i h

pub greatest_of-none : (xs : List Stmt) (i : ℕ) → length xs ≤ i → greatest_of (plain_stmts (drop i xs)) ≡ 0
greatest_of-none xs i h = at_drop_all (λ ys. greatest_of (plain_stmts ys)) xs i h

pub greatest_of_arms-none : (xs : List Arm) (i : ℕ) → length xs ≤ i → greatest_of_arms (plain_arms (drop i xs)) ≡ 0
greatest_of_arms-none xs i h = at_drop_all (λ ys. greatest_of_arms (plain_arms ys)) xs i h

-- a longer list
pub push_is : (xs : List Expr) (x : Expr) → plain_all (xs ++ x ∷ []) ≡ appended (plain_all xs) (plain x)
push_is [] x = refl
push_is (y ∷ ys) x = ap (more (plain y)) (push_is ys x)

pub take_longer : (i : ℕ) (xs : List Expr) (x : Expr) → x ≡ get_or xs i x → i < length xs → plain_all (take (i + 1) xs) ≡ appended (plain_all (take i xs)) (plain x)
take_longer i xs x is within =
    ap (λ n. plain_all (take n xs)) (add-one i) ∙ ap plain_all (take-suc xs i x within) ∙ push_is (take i xs) (get_or xs i x) ∙ ap (λ y. appended (plain_all (take i xs)) (plain y)) (sym is)

-- ---- lists of the same trees

count : Trees → ℕ
count end = 0
count (more e es) = suc (count es)

counted : (xs : List Expr) → count (plain_all xs) ≡ length xs
unfolding count
counted [] = refl
counted (x ∷ xs) = ap suc (counted xs)

pub same_length : (xs ys : List Expr) → plain_all xs ≡ plain_all ys → length xs ≡ length ys
same_length xs ys same = sym (counted xs) ∙ ap count same ∙ counted ys

pub same_at : (xs ys : List Expr) (i : ℕ) (d e : Expr) → plain_all xs ≡ plain_all ys → i < length xs → plain (get_or xs i d) ≡ plain (get_or ys i e)
same_at [] ys i d e same within = absurd (omega arith)
same_at (x ∷ xs) [] i d e same within = absurd cc
same_at (x ∷ xs) (y ∷ ys) zero d e same within = heads (plain x) (plain y) (plain_all xs) (plain_all ys) same
  where
    heads : (a b : Tree) (as' bs : Trees) → more a as' ≡ more b bs → a ≡ b
    heads a b as' bs same = cc
same_at (x ∷ xs) (y ∷ ys) (suc i) d e same within = same_at xs ys i d e (tails (plain x) (plain y) (plain_all xs) (plain_all ys) same) (omega arith)
  where
    tails : (a b : Tree) (as' bs : Trees) → more a as' ≡ more b bs → as' ≡ bs
    tails a b as' bs same = cc
