-- The rows of typed statements in memory are the lists of their plain form.
use Rattle.std.proofs.Common.{◌≡◌, ◌∙◌, refl, ap, map, Option, Some, None, Bool}
use Rattle.rst_width.specs.declared.typed_expr.TypedExpr.{TypedExpr}
use Rattle.rst_width.specs.Typed.{plain_typed}
use Rattle.std.specs.declared.vec.Vec.{Vec}
use Rattle.std.specs.declared.boxed.Box.{Box}
use Rattle.std.specs.declared.alloc.Global.{Global}
use mathlib.Core.Former.{Count}
use Rattle.rst_net.specs.declared.stmt.TypedStmt.{TypedStmt, Row_of-TypedStmt, end_of-TypedStmt, more_of-TypedStmt, items-the_row-TypedStmt, items_hidden-the_row-TypedStmt-0}
use Rattle.rst_net.specs.declared.stmt.TypedStmt.TheBlock.{hidden-the_row-TypedStmt-0, hidden-the_row-TypedArm-1}
use Rattle.rst_net.specs.declared.stmt.TypedArm.{TypedArm}
use Rattle.rst_net.specs.declared.stmt.TypedCase.{roll-TypedCase, Row_of-TypedArm, end_of-TypedArm, more_of-TypedArm, items-the_row-TypedArm, items_hidden-the_row-TypedArm-1}
use Rattle.rst_net.specs.declared.stmt.TypedStmt.TheVariants as stmt
use Rattle.rst_net.specs.Statements.{Arms, Block, Case, more, arm, no_default, default, plain_stmt, plain_case, plain_stmts, plain_arms, plain_row, plain_arm_row, plain_label}
use Rattle.rst_typing.specs.Parts.{plain_default}

plain_row-items : {n : Count} (k : Row_of-TypedStmt n) → plain_row k ≡ plain_stmts (items-the_row-TypedStmt n k)
plain_row-items end_of-TypedStmt = refl
plain_row-items (more_of-TypedStmt s ss) = ap (more (plain_stmt s)) (plain_row-items ss)

pub plain_stmt-Block : (v : Vec TypedStmt Global) → plain_stmt (stmt.Block v) ≡ Block (plain_stmts v.items)
plain_stmt-Block v = ap Block (plain_row-items (hidden-the_row-TypedStmt-0 v) ∙ ap plain_stmts (items_hidden-the_row-TypedStmt-0 v))

plain_arm_row-items : {n : Count} (k : Row_of-TypedArm n) → plain_arm_row k ≡ plain_arms (items-the_row-TypedArm n k)
plain_arm_row-items end_of-TypedArm = refl
plain_arm_row-items (more_of-TypedArm ls s others) = ap (arm (map plain_label ls.items) (plain_stmt s)) (plain_arm_row-items others)

pub plain_arms-hidden : (v : Vec TypedArm Global) → plain_arm_row (hidden-the_row-TypedArm-1 v) ≡ plain_arms v.items
plain_arms-hidden v = plain_arm_row-items (hidden-the_row-TypedArm-1 v) ∙ ap plain_arms (items_hidden-the_row-TypedArm-1 v)

pub plain_case-is : (selector : Box TypedExpr Global) (arms : Vec TypedArm Global) (otherwise : Option (Box TypedStmt Global)) (full : Bool)
    → plain_case (roll-TypedCase (record { selector = selector; arms = arms; otherwise = otherwise; full = full })) ≡ Case (plain_typed selector.value) (plain_arms arms.items) (plain_default otherwise) full
unfolding roll-TypedCase denote.Hole.Carrier.roll
plain_case-is selector arms None full = ap (λ (a : Arms). Case (plain_typed selector.value) a no_default full) (plain_arms-hidden arms)
plain_case-is selector arms (Some b) full = ap (λ (a : Arms). Case (plain_typed selector.value) a (default (plain_stmt b.value)) full) (plain_arms-hidden arms)

pub ruleset rows = (plain_stmt-Block, plain_arms-hidden)
