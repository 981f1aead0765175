-- What a longer list is, in plain form.
use Rattle.std.proofs.Common.{◌≡◌, max, arith, List, [], ◌∷◌, ◌++◌, refl, ap, ◌∙◌}
use Rattle.rst_tree.specs.declared.expr.Target.{Target}
use Rattle.rst_tree.specs.declared.stmt.Stmt.{Stmt}
use Rattle.rst_tree.specs.declared.stmt.Arm.{Arm}
use Rattle.rst_tree.specs.declared.stmt.Arm.TheVariants as arm
use Rattle.rst_tree.specs.Trees.{plain_all}
use Rattle.rst_tree.specs.Targets as targets
use Rattle.rst_tree.specs.Targets.{Place, Places, plain_target, plain_targets, height_of_target, greatest_target}
use Rattle.rst_tree.specs.Statements as statements
use Rattle.rst_tree.specs.Statements.{Statement, Statements, Arms, no_arm, labels, otherwise, plain_stmt, plain_stmts, plain_arm, plain_arms, appended_arms, height_of, greatest_of, greatest_of_arms}

pub push_target : (xs : List Target) (x : Target) → plain_targets (xs ++ x ∷ []) ≡ targets.appended (plain_targets xs) (plain_target x)
push_target [] x = refl
push_target (y ∷ ys) x = ap (targets.more (plain_target y)) (push_target ys x)

greatest_target-appended : (xs : Places) (x : Place) → greatest_target (targets.appended xs x) ≡ max (greatest_target xs) (height_of_target x)
greatest_target-appended targets.end x = omega arith
greatest_target-appended (targets.more y ys) x = omega (arith, greatest_target-appended ys x)

pub greatest_target_is : (xs : List Target) (x : Target) → greatest_target (plain_targets (xs ++ x ∷ [])) ≡ max (greatest_target (plain_targets xs)) (height_of_target (plain_target x))
greatest_target_is xs x = ap greatest_target (push_target xs x) ∙ greatest_target-appended (plain_targets xs) (plain_target x)

pub ruleset target_pushes = (push_target, greatest_target_is)

pub push_statement : (xs : List Stmt) (x : Stmt) → plain_stmts (xs ++ x ∷ []) ≡ statements.appended (plain_stmts xs) (plain_stmt x)
push_statement [] x = refl
push_statement (y ∷ ys) x = ap (statements.more (plain_stmt y)) (push_statement ys x)

greatest_of-appended : (xs : Statements) (x : Statement) → greatest_of (statements.appended xs x) ≡ max (greatest_of xs) (height_of x)
greatest_of-appended statements.end x = omega arith
greatest_of-appended (statements.more y ys) x = omega (arith, greatest_of-appended ys x)

pub greatest_of_is : (xs : List Stmt) (x : Stmt) → greatest_of (plain_stmts (xs ++ x ∷ [])) ≡ max (greatest_of (plain_stmts xs)) (height_of (plain_stmt x))
greatest_of_is xs x = ap greatest_of (push_statement xs x) ∙ greatest_of-appended (plain_stmts xs) (plain_stmt x)

pub ruleset statement_pushes = (push_statement, greatest_of_is)

pub push_arm : (xs : List Arm) (x : Arm) → plain_arms (xs ++ x ∷ []) ≡ appended_arms (plain_arms xs) (plain_arm x no_arm)
push_arm [] x = refl
push_arm (arm.Labels es s ∷ ys) x = ap (labels (plain_all es.items) (plain_stmt s)) (push_arm ys x)
push_arm (arm.Otherwise s ∷ ys) x = ap (otherwise (plain_stmt s)) (push_arm ys x)

greatest_of_arms-appended : (xs ys : Arms) → greatest_of_arms (appended_arms xs ys) ≡ max (greatest_of_arms xs) (greatest_of_arms ys)
greatest_of_arms-appended no_arm ys = omega arith
greatest_of_arms-appended (labels es s xs) ys = omega (arith, greatest_of_arms-appended xs ys)
greatest_of_arms-appended (otherwise s xs) ys = omega (arith, greatest_of_arms-appended xs ys)

pub greatest_of_arms_is : (xs : List Arm) (x : Arm) → greatest_of_arms (plain_arms (xs ++ x ∷ [])) ≡ max (greatest_of_arms (plain_arms xs)) (greatest_of_arms (plain_arm x no_arm))
greatest_of_arms_is xs x = ap greatest_of_arms (push_arm xs x) ∙ greatest_of_arms-appended (plain_arms xs) (plain_arm x no_arm)

pub ruleset arm_pushes = (push_arm, greatest_of_arms_is)
