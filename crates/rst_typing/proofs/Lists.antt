-- Statements and arms, one further.
use Rattle.std.proofs.Common.{◌≡◌, List, [], ◌∷◌, ◌++◌, map, Option, refl, sym, ap, subst, ◌∙◌, append_assoc, append-nil}
use Rattle.std.specs.List.{All}
use Rattle.std.proofs.lemmas.List.Elements.{All-push}
use Rattle.std.specs.declared.boxed.Box.{Box}
use Rattle.std.specs.declared.alloc.Global.{Global}
use Rattle.rst_tree.specs.Trees.{Trees}
use Rattle.rst_tree.specs.Statements as tree
use Rattle.rst_width.specs.declared.typed_expr.Shape.{Shape}
use Rattle.rst_width.specs.declared.typed_expr.WidthFault.{WidthFault}
use Rattle.rst_width.specs.Scopes.{Names}
use Rattle.rst_width.specs.Typed.{plain_typed}
use Rattle.rst_width.specs.Fit.{IsFit}
use Rattle.rst_net.specs.declared.stmt.TypedStmt.{TypedStmt}
use Rattle.rst_net.specs.declared.stmt.TypedArm.{TypedArm}
use Rattle.rst_net.specs.Statements.{Label, Statement, Statements, Arms, Default, end, more, no_arm, arm, no_default, default, plain_stmt, plain_stmts, plain_arms, plain_label}
use Rattle.rst_typing.specs.declared.stmts.ReadArms.{ReadArms}
use Rattle.rst_typing.specs.Typing.{typed_stmt, stmt_faults, typed_labels, label_faults, labels_of, typed_arms, typed_default, arms_faults}
use Rattle.rst_typing.specs.Refusals.{labels_in, AreFit}
use Rattle.rst_typing.specs.Parts.{Left, joined, joined_arms, either_default, plain_default}

pub joined-none : (ss : Statements) → joined ss end ≡ ss
joined-none end = refl
joined-none (more s ss) = ap (more s) (joined-none ss)

pub joined_arms-none : (arms : Arms) → joined_arms arms no_arm ≡ arms
joined_arms-none no_arm = refl
joined_arms-none (arm ls s rest) = ap (arm ls s) (joined_arms-none rest)

pub either_default-none : (d : Default) → either_default d no_default ≡ d
either_default-none no_default = refl
either_default-none (default s) = refl

pub joined-push : (xs : List TypedStmt) (x : TypedStmt) (others : Statements) → joined (plain_stmts (xs ++ x ∷ [])) others ≡ joined (plain_stmts xs) (more (plain_stmt x) others)
joined-push [] x others = refl
joined-push (y ∷ ys) x others = ap (more (plain_stmt y)) (joined-push ys x others)

pub joined_arms-push : (xs : List TypedArm) (a : TypedArm) (others : Arms) → joined_arms (plain_arms (xs ++ a ∷ [])) others ≡ joined_arms (plain_arms xs) (arm (map plain_label a.labels.items) (plain_stmt a.body) others)
joined_arms-push [] a others = refl
joined_arms-push (b ∷ bs) a others = ap (arm (map plain_label b.labels.items) (plain_stmt b.body)) (joined_arms-push bs a others)

pub labels_in-push : (xs : List TypedArm) (a : TypedArm) (others : List Label) → (labels_in (xs ++ a ∷ []) ++ others) ≡ (labels_in xs ++ (map plain_label a.labels.items ++ others))
labels_in-push [] a others = ap (λ (ls : List Label). ls ++ others) (append-nil (map plain_label a.labels.items))
labels_in-push (b ∷ bs) a others =
    append_assoc (map plain_label b.labels.items) (labels_in (bs ++ a ∷ [])) others
    ∙ ap (λ (ls : List Label). map plain_label b.labels.items ++ ls) (labels_in-push bs a others)
    ∙ sym (append_assoc (map plain_label b.labels.items) (labels_in bs) (map plain_label a.labels.items ++ others))

fit-push : (xs : List TypedArm) (a : TypedArm) → AreFit xs → All (λ l. IsFit (plain_typed l.value.value)) a.labels.items → AreFit (xs ++ a ∷ [])
fit-push xs a h k = All-push (λ (b : TypedArm). All (λ l. IsFit (plain_typed l.value.value)) b.labels.items) xs a h k

no_fault : (front rest : List WidthFault) → front ≡ [] → (front ++ rest) ≡ rest
no_fault front rest none = ap (λ (fs : List WidthFault). fs ++ rest) none

module _ (names : Names) (shape : Shape) (made next : ReadArms) (others all : tree.Arms) where
  -- an arm with labels is read
  pub left_labels : (a : TypedArm) (es : Trees) (s : tree.Statement) → next.arms.items ≡ made.arms.items ++ a ∷ [] → next.otherwise ≡ made.otherwise
      → map plain_label a.labels.items ≡ typed_labels names shape es → plain_stmt a.body ≡ typed_stmt names s → All (λ l. IsFit (plain_typed l.value.value)) a.labels.items
      → label_faults names shape es ≡ [] → stmt_faults names s ≡ []
      → Left names shape made (tree.labels es s others) all → Left names shape next others all
  left_labels a es s longer same labels body fit none_of_labels none_of_body left = record {
    arms = ap (λ (xs : List TypedArm). joined_arms (plain_arms xs) (typed_arms names shape others)) longer
        ∙ joined_arms-push made.arms.items a (typed_arms names shape others)
        ∙ ap (λ (ls : List Label). joined_arms (plain_arms made.arms.items) (arm ls (plain_stmt a.body) (typed_arms names shape others))) labels
        ∙ ap (λ (t : Statement). joined_arms (plain_arms made.arms.items) (arm (typed_labels names shape es) t (typed_arms names shape others))) body
        ∙ left.arms;
    otherwise = ap (λ (o : Option (Box TypedStmt Global)). either_default (plain_default o) (typed_default names others)) same ∙ left.otherwise;
    labels = ap (λ (xs : List TypedArm). labels_in xs ++ labels_of names shape others) longer
        ∙ labels_in-push made.arms.items a (labels_of names shape others)
        ∙ ap (λ (ls : List Label). labels_in made.arms.items ++ (ls ++ labels_of names shape others)) labels
        ∙ left.labels;
    faults = sym (no_fault (label_faults names shape es) (stmt_faults names s ++ arms_faults names shape others) none_of_labels ∙ no_fault (stmt_faults names s) (arms_faults names shape others) none_of_body) ∙ left.faults;
    fit = subst AreFit (sym longer) (fit-push made.arms.items a left.fit fit);
  }
