-- A case of what was read of its selector and arms.
use Rattle.std.proofs.Common.{◌≡◌, ℕ, Bool, List, [], sym, ap, ◌∙◌, append-nil}
use Rattle.rst_tree.specs.Trees.{Tree}
use Rattle.rst_tree.specs.Statements as tree
use Rattle.rst_width.specs.declared.typed_expr.Shape.{Shape}
use Rattle.rst_width.specs.declared.typed_expr.WidthFault.{WidthFault}
use Rattle.rst_width.specs.Scopes.{Names}
use Rattle.rst_width.specs.Sized.{Answer}
use Rattle.rst_width.specs.Cut.{cut_shape, cut_width}
use Rattle.rst_width.specs.Typed.{Typed}
use Rattle.rst_width.specs.Answers.{own_shape, placed_answer}
use Rattle.rst_width.proofs.TableRows.{placed-cut}
use Rattle.rst_net.specs.Statements.{Label, Arms, Default, Case, plain_arms}
use Rattle.rst_typing.specs.declared.stmts.ReadArms.{ReadArms}
use Rattle.rst_typing.specs.Typing.{typed_or, answer_faults, shape_of_arms, labels_of, typed_arms, typed_default, typed_stmt, stmt_faults, arms_faults, is_full}
use Rattle.rst_typing.specs.Refusals.{IsFirst, labels_in}
use Rattle.rst_typing.specs.Parts.{Left, cut_arms, plain_default}
use Rattle.rst_typing.proofs.Faults.{is_first-front, is_first-behind, is_first-same, none-joined}
use Rattle.rst_typing.proofs.Lists.{joined_arms-none, either_default-none}
use Rattle.rst_typing.proofs.Wide.{cut_arms-is, labels_of-cut, typed_arms-cut, arms_faults-cut, is_full-cut}

-- the code's shape is the one of the rule, cut
module _ (names : Names) (wild : Bool) (e : Tree) (arms : tree.Arms) (shape : Shape) (is : shape ≡ cut_arms names (cut_shape (own_shape names e)) arms) where
  abbrev whole : Shape
  whole = shape_of_arms names (own_shape names e) arms

  shape_is : shape ≡ cut_shape whole
  shape_is = is ∙ cut_arms-is names (own_shape names e) arms

  answer_is : placed_answer names e shape ≡ placed_answer names e whole
  answer_is = ap (placed_answer names e) shape_is ∙ placed-cut names e whole

  arms_faults_are : arms_faults names shape arms ≡ arms_faults names whole arms
  arms_faults_are = ap (λ (s : Shape). arms_faults names s arms) shape_is ∙ arms_faults-cut names whole arms

  -- the selector has a fault
  pub selector_refuses : (f : WidthFault) → IsFirst f (answer_faults (placed_answer names e shape)) → IsFirst f (stmt_faults names (tree.Case wild e arms))
  selector_refuses f h =
      is_first-front f (answer_faults (placed_answer names e whole)) (arms_faults names whole arms)
      (is_first-same f _ _ (ap (λ (a : Answer). answer_faults a) answer_is) h)

  -- an arm has one
  pub arms_refuse : (f : WidthFault) → answer_faults (placed_answer names e shape) ≡ [] → IsFirst f (arms_faults names shape arms) → IsFirst f (stmt_faults names (tree.Case wild e arms))
  arms_refuse f none h =
      is_first-behind f (answer_faults (placed_answer names e whole)) (arms_faults names whole arms)
      (sym (ap (λ (a : Answer). answer_faults a) answer_is) ∙ none) (is_first-same f _ _ arms_faults_are h)

  -- neither has one
  pub case_passes : (made : ReadArms) → answer_faults (placed_answer names e shape) ≡ [] → Left names shape made tree.no_arm arms → stmt_faults names (tree.Case wild e arms) ≡ []
  case_passes made none left =
      none-joined (answer_faults (placed_answer names e whole)) (arms_faults names whole arms)
      (sym (ap (λ (a : Answer). answer_faults a) answer_is) ∙ none) (sym arms_faults_are ∙ sym left.faults)

  -- the case that was read
  pub case_is : (selector : Typed) (made : ReadArms) (k : ℕ) → k ≡ cut_width (own_shape names e).width → selector ≡ typed_or (placed_answer names e shape) → Left names shape made tree.no_arm arms
      → Case selector (plain_arms made.arms.items) (plain_default made.otherwise) (is_full k selector (labels_in made.arms.items)) ≡ typed_stmt names (tree.Case wild e arms)
  case_is selector made k width typed left =
      let arms_are : plain_arms made.arms.items ≡ typed_arms names whole arms =
      sym (joined_arms-none (plain_arms made.arms.items)) ∙ left.arms ∙ ap (λ (s : Shape). typed_arms names s arms) shape_is ∙ typed_arms-cut names whole arms in
      let default_is : plain_default made.otherwise ≡ typed_default names arms = sym (either_default-none (plain_default made.otherwise)) ∙ left.otherwise in
      let labels_are : labels_in made.arms.items ≡ labels_of names whole arms =
      sym (append-nil (labels_in made.arms.items)) ∙ left.labels ∙ ap (λ (s : Shape). labels_of names s arms) shape_is ∙ labels_of-cut names whole arms in
      let selector_is : selector ≡ typed_or (placed_answer names e whole) = typed ∙ ap typed_or answer_is in
      let full_is : is_full k selector (labels_in made.arms.items) ≡ is_full (own_shape names e).width selector (labels_in made.arms.items) =
      ap (λ (n : ℕ). is_full n selector (labels_in made.arms.items)) width ∙ is_full-cut (own_shape names e).width selector (labels_in made.arms.items) in
      ap (Case selector (plain_arms made.arms.items) (plain_default made.otherwise)) full_is
      ∙ ap (λ (s : Typed). Case s (plain_arms made.arms.items) (plain_default made.otherwise) (is_full (own_shape names e).width s (labels_in made.arms.items))) selector_is
      ∙ ap (λ (a : Arms). Case (typed_or (placed_answer names e whole)) a (plain_default made.otherwise) (is_full (own_shape names e).width (typed_or (placed_answer names e whole)) (labels_in made.arms.items))) arms_are
      ∙ ap (λ (d : Default). Case (typed_or (placed_answer names e whole)) (typed_arms names whole arms) d (is_full (own_shape names e).width (typed_or (placed_answer names e whole)) (labels_in made.arms.items))) default_is
      ∙ ap (λ (ls : List Label). Case (typed_or (placed_answer names e whole)) (typed_arms names whole arms) (typed_default names arms) (is_full (own_shape names e).width (typed_or (placed_answer names e whole)) ls)) labels_are
