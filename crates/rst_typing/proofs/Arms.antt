-- What is known of the arms when one with labels, as it stands in memory, is read.
use Rattle.std.proofs.Common.{◌≡◌, [], ◌∷◌, ◌++◌, map, ap, subst}
use Rattle.std.specs.List.{All}
use Rattle.std.specs.declared.vec.Vec.{Vec}
use Rattle.std.specs.declared.alloc.Global.{Global}
use Rattle.rst_tree.specs.declared.expr.Expr.{Expr}
use Rattle.rst_tree.specs.declared.stmt.Stmt.{Stmt}
use Rattle.rst_tree.specs.declared.stmt.Arm.{Arm}
use Rattle.rst_tree.specs.declared.stmt.Arm.TheVariants as arm
use Rattle.rst_tree.specs.Trees.{plain_all}
use Rattle.rst_tree.specs.Statements as tree
use Rattle.rst_width.specs.declared.typed_expr.Shape.{Shape}
use Rattle.rst_width.specs.Scopes.{Names}
use Rattle.rst_width.specs.Typed.{plain_typed}
use Rattle.rst_width.specs.Fit.{IsFit}
use Rattle.rst_net.specs.declared.stmt.TypedArm.{TypedArm}
use Rattle.rst_net.specs.Statements.{plain_stmt, plain_label}
use Rattle.rst_typing.specs.declared.stmts.ReadArms.{ReadArms}
use Rattle.rst_typing.specs.Typing.{typed_stmt, stmt_faults, typed_labels, label_faults}
use Rattle.rst_typing.specs.Parts.{Left}
use Rattle.rst_typing.proofs.Lists.{left_labels}

module _ (names : Names) (shape : Shape) (x : Arm) (others : tree.Arms) where
  module _ (es : Vec Expr Global) (s : Stmt) (is : x ≡ arm.Labels es s) where
    labels_here : tree.plain_arm x others ≡ tree.labels (plain_all es.items) (tree.plain_stmt s) others
    labels_here = ap (λ (y : Arm). tree.plain_arm y others) is

    pub labels_read : (made next : ReadArms) (all : tree.Arms) (a : TypedArm) → next.arms.items ≡ made.arms.items ++ a ∷ [] → next.otherwise ≡ made.otherwise
        → map plain_label a.labels.items ≡ typed_labels names shape (plain_all es.items) → plain_stmt a.body ≡ typed_stmt names (tree.plain_stmt s)
        → All (λ l. IsFit (plain_typed l.value.value)) a.labels.items → label_faults names shape (plain_all es.items) ≡ [] → stmt_faults names (tree.plain_stmt s) ≡ []
        → Left names shape made (tree.plain_arm x others) all → Left names shape next others all
    labels_read made next all a longer same labels body fit none_of_labels none_of_body left =
        left_labels names shape made next others all a (plain_all es.items) (tree.plain_stmt s) longer same labels body fit none_of_labels none_of_body
        (subst (λ (b : tree.Arms). Left names shape made b all) labels_here left)
