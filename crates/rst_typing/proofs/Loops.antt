-- One turn of the loops over labels and statements: what is left has the first fault of all, and what was read stands before it.
use Rattle.std.proofs.Common.{◌≡◌, ℕ, ◌+◌, ◌<◌, List, [], ◌∷◌, ◌++◌, length, get_or, drop, Option, None, refl, sym, ap, subst, ◌∙◌, append_assoc, append-nil, ◌≤◌}
use Rattle.std.specs.List.{All}
use Rattle.std.proofs.lemmas.List.{at_drop_all}
use Rattle.std.proofs.lemmas.List.Elements.{All-nil, All-push}
use Rattle.std.specs.declared.vec.Vec.{Vec}
use Rattle.std.specs.declared.boxed.Box.{Box}
use Rattle.std.specs.declared.alloc.Global.{Global}
use Rattle.rst_tree.specs.declared.expr.Expr.{Expr}
use Rattle.rst_tree.specs.declared.stmt.Stmt.{Stmt}
use Rattle.rst_tree.specs.declared.stmt.Arm.{Arm}
use Rattle.rst_tree.specs.Trees.{plain, plain_all}
use Rattle.rst_tree.specs.Statements as tree
use Rattle.rst_width.specs.declared.typed_expr.Shape.{Shape}
use Rattle.rst_width.specs.declared.typed_expr.WidthFault.{WidthFault}
use Rattle.rst_width.specs.Scopes.{Names}
use Rattle.rst_width.specs.Typed.{plain_typed}
use Rattle.rst_width.specs.Fit.{IsFit}
use Rattle.rst_width.specs.Answers.{placed_answer}
use Rattle.rst_net.specs.declared.stmt.TypedStmt.{TypedStmt}
use Rattle.rst_net.specs.declared.stmt.TypedStmt.TheVariants as stmt
use Rattle.rst_net.specs.declared.stmt.TypedArm.{TypedArm}
use Rattle.rst_net.specs.Statements.{Statement, Label, Block, more, plain_stmt, plain_stmts, plain_arms}
use Rattle.rst_names.proofs.Turns.{at, read}
use Rattle.rst_typing.specs.declared.stmts.ReadArms.{ReadArms}
use Rattle.rst_typing.specs.Typing.{answer_faults, typed_label, typed_labels, label_faults, typed_stmt, typed_stmts, stmt_faults, stmts_faults, labels_of, typed_arms, typed_default, arms_faults}
use Rattle.rst_typing.specs.Refusals.{IsFirst, labels_in, AreFit}
use Rattle.rst_typing.specs.Parts.{Left, joined, joined_arms, either_default, plain_default}
use Rattle.rst_typing.proofs.Faults.{is_first-front, is_first-same, is_first-memory}
use Rattle.rst_typing.proofs.Lists.{joined-none, joined-push}
use Rattle.rst_typing.proofs.Rows.{plain_stmt-Block}

back : {X : Type 0} (xs : List X) (i : ℕ) (x : X) → i < length xs → x ≡ get_or xs i x → drop i xs ≡ x ∷ drop (i + 1) xs
back xs i x within is = (at xs i x (read xs i x within is)).back

module _ (names : Names) (shape : Shape) (xs : List Expr) (i : ℕ) (x : Expr) (within : i < length xs) (is : x ≡ get_or xs i x) where
  faults_here : label_faults names shape (plain_all (drop i xs)) ≡ answer_faults (placed_answer names (plain x) shape) ++ label_faults names shape (plain_all (drop (i + 1) xs))
  faults_here = ap (λ (l : List Expr). label_faults names shape (plain_all l)) (back xs i x within is)

  -- a label has a fault
  pub label_refuses : (e : WidthFault) → label_faults names shape (plain_all (drop i xs)) ≡ label_faults names shape (plain_all xs)
      → IsFirst e (answer_faults (placed_answer names (plain x) shape)) → IsFirst e (label_faults names shape (plain_all xs))
  label_refuses e left h =
      is_first-same e _ (label_faults names shape (plain_all xs)) (sym faults_here ∙ left)
      (is_first-front e (answer_faults (placed_answer names (plain x) shape)) (label_faults names shape (plain_all (drop (i + 1) xs))) h)

  -- a label has none
  pub label_goes_on : label_faults names shape (plain_all (drop i xs)) ≡ label_faults names shape (plain_all xs) → answer_faults (placed_answer names (plain x) shape) ≡ []
      → label_faults names shape (plain_all (drop (i + 1) xs)) ≡ label_faults names shape (plain_all xs)
  label_goes_on left none =
      sym (faults_here ∙ ap (λ (fs : List WidthFault). fs ++ label_faults names shape (plain_all (drop (i + 1) xs))) none) ∙ left

  -- one label more is read
  pub label_read : (done new : List Label) (l : Label) → new ≡ done ++ l ∷ [] → l ≡ typed_label names shape (plain x)
      → (done ++ typed_labels names shape (plain_all (drop i xs))) ≡ typed_labels names shape (plain_all xs)
      → (new ++ typed_labels names shape (plain_all (drop (i + 1) xs))) ≡ typed_labels names shape (plain_all xs)
  label_read done new l longer typed left =
      ap (λ (ls : List Label). ls ++ typed_labels names shape (plain_all (drop (i + 1) xs))) longer
      ∙ append_assoc done (l ∷ []) (typed_labels names shape (plain_all (drop (i + 1) xs)))
      ∙ ap (λ (k : Label). done ++ (k ∷ typed_labels names shape (plain_all (drop (i + 1) xs)))) typed
      ∙ sym (ap (λ (l : List Expr). done ++ typed_labels names shape (plain_all l)) (back xs i x within is))
      ∙ left

module _ (names : Names) (xs : List Stmt) (i : ℕ) (x : Stmt) (within : i < length xs) (is : x ≡ get_or xs i x) where
  stmt_faults_here : stmts_faults names (tree.plain_stmts (drop i xs)) ≡ stmt_faults names (tree.plain_stmt x) ++ stmts_faults names (tree.plain_stmts (drop (i + 1) xs))
  stmt_faults_here = ap (λ (l : List Stmt). stmts_faults names (tree.plain_stmts l)) (back xs i x within is)

  -- a statement has a fault
  pub stmt_refuses : (e : WidthFault) → stmts_faults names (tree.plain_stmts (drop i xs)) ≡ stmts_faults names (tree.plain_stmts xs)
      → IsFirst e (stmt_faults names (tree.plain_stmt x)) → IsFirst e (stmts_faults names (tree.plain_stmts xs))
  stmt_refuses e left h =
      is_first-same e _ (stmts_faults names (tree.plain_stmts xs)) (sym stmt_faults_here ∙ left)
      (is_first-front e (stmt_faults names (tree.plain_stmt x)) (stmts_faults names (tree.plain_stmts (drop (i + 1) xs))) h)

  -- a statement has none
  pub stmt_goes_on : stmts_faults names (tree.plain_stmts (drop i xs)) ≡ stmts_faults names (tree.plain_stmts xs) → stmt_faults names (tree.plain_stmt x) ≡ []
      → stmts_faults names (tree.plain_stmts (drop (i + 1) xs)) ≡ stmts_faults names (tree.plain_stmts xs)
  stmt_goes_on left none =
      sym (stmt_faults_here ∙ ap (λ (fs : List WidthFault). fs ++ stmts_faults names (tree.plain_stmts (drop (i + 1) xs))) none) ∙ left

  -- one statement more is read
  pub stmt_read : (done new : List TypedStmt) (s : TypedStmt) → new ≡ done ++ s ∷ [] → plain_stmt s ≡ typed_stmt names (tree.plain_stmt x)
      → joined (plain_stmts done) (typed_stmts names (tree.plain_stmts (drop i xs))) ≡ typed_stmts names (tree.plain_stmts xs)
      → joined (plain_stmts new) (typed_stmts names (tree.plain_stmts (drop (i + 1) xs))) ≡ typed_stmts names (tree.plain_stmts xs)
  stmt_read done new s longer typed left =
      ap (λ (ss : List TypedStmt). joined (plain_stmts ss) (typed_stmts names (tree.plain_stmts (drop (i + 1) xs)))) longer
      ∙ joined-push done s (typed_stmts names (tree.plain_stmts (drop (i + 1) xs)))
      ∙ ap (λ (t : Statement). joined (plain_stmts done) (more t (typed_stmts names (tree.plain_stmts (drop (i + 1) xs))))) typed
      ∙ sym (ap (λ (l : List Stmt). joined (plain_stmts done) (typed_stmts names (tree.plain_stmts l))) (back xs i x within is))
      ∙ left

module _ (names : Names) (shape : Shape) (xs : List Arm) (i : ℕ) (x : Arm) (within : i < length xs) (is : x ≡ get_or xs i x) where
  -- the arms that are left, with the first of them in front
  pub arms_here : tree.plain_arms (drop i xs) ≡ tree.plain_arm x (tree.plain_arms (drop (i + 1) xs))
  arms_here = ap tree.plain_arms (back xs i x within is)

  -- an arm has a fault
  pub arm_refuses : (e : WidthFault) → arms_faults names shape (tree.plain_arms (drop i xs)) ≡ arms_faults names shape (tree.plain_arms xs)
      → IsFirst e (arms_faults names shape (tree.plain_arm x (tree.plain_arms (drop (i + 1) xs)))) → IsFirst e (arms_faults names shape (tree.plain_arms xs))
  arm_refuses e left h = is_first-same e _ (arms_faults names shape (tree.plain_arms xs)) (sym (ap (arms_faults names shape) arms_here) ∙ left) h

  -- an arm is read: what a call says of any others says it of those that are left
  pub arm_read : (made next : ReadArms) → ((others all : tree.Arms) → Left names shape made (tree.plain_arm x others) all → Left names shape next others all)
      → Left names shape made (tree.plain_arms (drop i xs)) (tree.plain_arms xs) → Left names shape next (tree.plain_arms (drop (i + 1) xs)) (tree.plain_arms xs)
  arm_read made next reads left = reads (tree.plain_arms (drop (i + 1) xs)) (tree.plain_arms xs) (subst (λ (a : tree.Arms). Left names shape made a (tree.plain_arms xs)) arms_here left)

-- ---- the ends

pub labels_end : (names : Names) (shape : Shape) (xs : List Expr) (i : ℕ) (made : List Label) → length xs ≤ i
    → (made ++ typed_labels names shape (plain_all (drop i xs))) ≡ typed_labels names shape (plain_all xs) → made ≡ typed_labels names shape (plain_all xs)
labels_end names shape xs i made past left =
    sym (append-nil made) ∙ sym (at_drop_all (λ (l : List Expr). made ++ typed_labels names shape (plain_all l)) xs i past) ∙ left

pub label_faults_end : (names : Names) (shape : Shape) (xs : List Expr) (i : ℕ) → length xs ≤ i → label_faults names shape (plain_all (drop i xs)) ≡ label_faults names shape (plain_all xs)
    → label_faults names shape (plain_all xs) ≡ []
label_faults_end names shape xs i past left = sym left ∙ at_drop_all (λ (l : List Expr). label_faults names shape (plain_all l)) xs i past

pub block_end : (names : Names) (xs : List Stmt) (i : ℕ) (made : Vec TypedStmt Global) → length xs ≤ i
    → joined (plain_stmts made.items) (typed_stmts names (tree.plain_stmts (drop i xs))) ≡ typed_stmts names (tree.plain_stmts xs) → plain_stmt (stmt.Block made) ≡ Block (typed_stmts names (tree.plain_stmts xs))
block_end names xs i made past left =
    plain_stmt-Block made
    ∙ ap Block (sym (joined-none (plain_stmts made.items)) ∙ sym (at_drop_all (λ (l : List Stmt). joined (plain_stmts made.items) (typed_stmts names (tree.plain_stmts l))) xs i past) ∙ left)

pub block_faults_end : (names : Names) (xs : List Stmt) (i : ℕ) → length xs ≤ i → stmts_faults names (tree.plain_stmts (drop i xs)) ≡ stmts_faults names (tree.plain_stmts xs)
    → stmts_faults names (tree.plain_stmts xs) ≡ []
block_faults_end names xs i past left = sym left ∙ at_drop_all (λ (l : List Stmt). stmts_faults names (tree.plain_stmts l)) xs i past

pub arms_end : (names : Names) (shape : Shape) (xs : List Arm) (i : ℕ) (made : ReadArms) (all : tree.Arms) → length xs ≤ i → Left names shape made (tree.plain_arms (drop i xs)) all → Left names shape made tree.no_arm all
arms_end names shape xs i made all past left = subst (λ (a : tree.Arms). Left names shape made a all) (at_drop_all tree.plain_arms xs i past) left

pub arms_begin : (names : Names) (shape : Shape) (made : ReadArms) (all : tree.Arms) → made.arms.items ≡ [] → made.otherwise ≡ None → Left names shape made all all
arms_begin names shape made all none no_default = record {
  arms = ap (λ (l : List TypedArm). joined_arms (plain_arms l) (typed_arms names shape all)) none;
  otherwise = ap (λ (o : Option (Box TypedStmt Global)). either_default (plain_default o) (typed_default names all)) no_default;
  labels = ap (λ (l : List TypedArm). labels_in l ++ labels_of names shape all) none;
  faults = refl;
  fit = subst AreFit (sym none) (All-nil (λ (b : TypedArm). All (λ l. IsFit (plain_typed l.value.value)) b.labels.items));
}

pub ruleset turns = (label_refuses, label_goes_on, label_read, labels_end, label_faults_end, is_first-memory, All-push, All-nil)

pub ruleset statement_turns = (stmt_refuses, stmt_goes_on, stmt_read, block_end, block_faults_end, arm_refuses, arm_read, arms_end, arms_begin, is_first-memory)
