-- A case that is sized with cut widths is the one that is sized with whole ones.
use Rattle.std.proofs.Common.{◌≡◌, ℕ, min, false, List, ◌∷◌, ◌++◌, refl, sym, ap, ◌∙◌, arith, nat_le, ◌<◌, inl, inr}
use Rattle.std.proofs.lemmas.Bool.Decides.{leb_tells}
use Rattle.rst_tree.specs.Trees.{Tree, Trees}
use Rattle.rst_tree.specs.Trees as expr
use Rattle.rst_tree.specs.Statements as tree
use Rattle.rst_width.specs.declared.typed_expr.Shape.{Shape}
use Rattle.rst_width.specs.declared.typed_expr.WidthFault.{WidthFault}
use Rattle.rst_width.specs.Scopes.{Names}
use Rattle.rst_width.specs.Sized.{Answer, larger}
use Rattle.rst_width.specs.Cut.{cut_shape, cut_width}
use Rattle.rst_width.specs.Typed.{Typed}
use Rattle.rst_width.specs.Answers.{own_shape, placed_answer}
use Rattle.rst_width.proofs.Cuts.{larger-cut}
use Rattle.rst_width.proofs.TableRows.{placed-cut}
use Rattle.rst_net.specs.Statements.{Label, Arms, arm}
use Rattle.rst_typing.specs.Typing.{typed_or, answer_faults, shape_of_labels, shape_of_arms, mask_of, typed_label, typed_labels, label_faults, labels_of, typed_arms, typed_stmt, stmt_faults, arms_faults, is_full}
use Rattle.rst_typing.specs.Parts.{cut_labels, cut_arms}

pub cut_labels-is : (names : Names) (shape : Shape) (es : Trees) → cut_labels names (cut_shape shape) es ≡ cut_shape (shape_of_labels names shape es)
cut_labels-is names shape expr.end = refl
cut_labels-is names shape (expr.more e es) =
    ap (λ (s : Shape). cut_labels names s es) (larger-cut shape (own_shape names e)) ∙ cut_labels-is names (larger shape (own_shape names e)) es

pub cut_arms-is : (names : Names) (shape : Shape) (arms : tree.Arms) → cut_arms names (cut_shape shape) arms ≡ cut_shape (shape_of_arms names shape arms)
cut_arms-is names shape tree.no_arm = refl
cut_arms-is names shape (tree.labels es s others) =
    ap (λ (c : Shape). cut_arms names c others) (cut_labels-is names shape es) ∙ cut_arms-is names (shape_of_labels names shape es) others
cut_arms-is names shape (tree.otherwise s others) = cut_arms-is names shape others

abbrev labelled : ℕ → Typed → Label
labelled mask value = record { value = value; mask = mask }

typed_label-cut : (names : Names) (shape : Shape) (e : Tree) → typed_label names (cut_shape shape) e ≡ typed_label names shape e
typed_label-cut names shape e = ap (λ (a : Answer). labelled (mask_of e) (typed_or a)) (placed-cut names e shape)

typed_labels-cut : (names : Names) (shape : Shape) (es : Trees) → typed_labels names (cut_shape shape) es ≡ typed_labels names shape es
typed_labels-cut names shape expr.end = refl
typed_labels-cut names shape (expr.more e es) =
    ap (λ (l : Label). l ∷ typed_labels names (cut_shape shape) es) (typed_label-cut names shape e)
    ∙ ap (λ (ls : List Label). typed_label names shape e ∷ ls) (typed_labels-cut names shape es)

label_faults-cut : (names : Names) (shape : Shape) (es : Trees) → label_faults names (cut_shape shape) es ≡ label_faults names shape es
label_faults-cut names shape expr.end = refl
label_faults-cut names shape (expr.more e es) =
    ap (λ (a : Answer). answer_faults a ++ label_faults names (cut_shape shape) es) (placed-cut names e shape)
    ∙ ap (λ (fs : List WidthFault). answer_faults (placed_answer names e shape) ++ fs) (label_faults-cut names shape es)

pub labels_of-cut : (names : Names) (shape : Shape) (arms : tree.Arms) → labels_of names (cut_shape shape) arms ≡ labels_of names shape arms
labels_of-cut names shape tree.no_arm = refl
labels_of-cut names shape (tree.labels es s others) =
    ap (λ (ls : List Label). ls ++ labels_of names (cut_shape shape) others) (typed_labels-cut names shape es)
    ∙ ap (λ (ls : List Label). typed_labels names shape es ++ ls) (labels_of-cut names shape others)
labels_of-cut names shape (tree.otherwise s others) = labels_of-cut names shape others

pub typed_arms-cut : (names : Names) (shape : Shape) (arms : tree.Arms) → typed_arms names (cut_shape shape) arms ≡ typed_arms names shape arms
typed_arms-cut names shape tree.no_arm = refl
typed_arms-cut names shape (tree.labels es s others) =
    ap (λ (ls : List Label). arm ls (typed_stmt names s) (typed_arms names (cut_shape shape) others)) (typed_labels-cut names shape es)
    ∙ ap (λ (rest : Arms). arm (typed_labels names shape es) (typed_stmt names s) rest) (typed_arms-cut names shape others)
typed_arms-cut names shape (tree.otherwise s others) = typed_arms-cut names shape others

pub arms_faults-cut : (names : Names) (shape : Shape) (arms : tree.Arms) → arms_faults names (cut_shape shape) arms ≡ arms_faults names shape arms
arms_faults-cut names shape tree.no_arm = refl
arms_faults-cut names shape (tree.labels es s others) =
    ap (λ (fs : List WidthFault). fs ++ (stmt_faults names s ++ arms_faults names (cut_shape shape) others)) (label_faults-cut names shape es)
    ∙ ap (λ (fs : List WidthFault). label_faults names shape es ++ (stmt_faults names s ++ fs)) (arms_faults-cut names shape others)
arms_faults-cut names shape (tree.otherwise s others) = ap (λ (fs : List WidthFault). stmt_faults names s ++ fs) (arms_faults-cut names shape others)

-- a case of a selector with more than 8 bits is not full
wide : (k : ℕ) (selector : Typed) (ls : List Label) → nat_le k 8 ≡ false → is_full k selector ls ≡ false
wide k selector ls h = rw h refl

pub is_full-cut : (k : ℕ) (selector : Typed) (ls : List Label) → is_full (cut_width k) selector ls ≡ is_full k selector ls
is_full-cut k selector ls =
    elim (leb_tells k 8) [
      | inl t ↦ let same : min k 65 ≡ k = omega arith in ap (λ (n : ℕ). is_full n selector ls) same
      | inr t ↦ wide (cut_width k) selector ls (above k t.1) ∙ sym (wide k selector ls t.0)
    ]
  where
    above : (k : ℕ) → 8 < k → nat_le (min k 65) 8 ≡ false
    above k h = elim (leb_tells (min k 65) 8) [ inl t ↦ absurd (omega arith) | inr t ↦ t.0 ]
