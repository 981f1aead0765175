-- Typed expressions without a fault fit.
use Rattle.std.proofs.Common.{◌≡◌, ℕ, true, false, List, [], ◌∷◌, ◌++◌, None, Ok, Err, arith, refl}
use Rattle.std.specs.Prelude.{IfOk}
use Rattle.rst_tree.specs.Trees.{Tree}
use Rattle.rst_width.specs.declared.typed_expr.Shape.{Shape}
use Rattle.rst_width.specs.Scopes.{Names, AreMeanings}
use Rattle.rst_width.specs.Typed.{Typed}
use Rattle.rst_width.specs.Sized.{Answer}
use Rattle.rst_width.specs.Fit.{IsFitAt}
use Rattle.rst_width.specs.Reads.{HaveWidths, ReadsInside}
use Rattle.rst_width.specs.Answers.{own_shape, widened_shape, placed_shape, typed_answer, placed_answer}
use Rattle.rst_width.proofs.AnswersFit.{typed-fits, placed-fits}
use Rattle.rst_width.proofs.ReadsSized.{typed-reads}
use Rattle.rst_names.specs.Faults.{first}
use Rattle.rst_typing.specs.Typing.{typed_or, typed_at, answer_faults}
use Rattle.rst_statement_values.specs.Fits.{ExpressionFits}

pub none_first : {X : Type 0} (a : List X) → first a ≡ None → a ≡ []
none_first [] h = refl
none_first (x ∷ a) h = absurd cc

pub none_both : {X : Type 0} (a b : List X) → (a ++ b) ≡ [] → (a ≡ []) × (b ≡ [])
none_both [] b h = (refl, h)
none_both (x ∷ a) b h = absurd cc

-- what holds of the typed form of an answer without a fault
pub of_good : (P : Typed → Type 0) (a : Answer) → answer_faults a ≡ [] → IfOk a P → P (typed_or a)
of_good P (Ok e) none h = h
of_good P (Err fault) none h = absurd cc

module _ (names : Names) (right : AreMeanings names) where
  pub at_fit : (e : Tree) (width : ℕ) → answer_faults (typed_answer names e width) ≡ [] → IsFitAt (widened_shape (own_shape names e) width) (typed_at names e width)
  at_fit e width none = of_good (IsFitAt (widened_shape (own_shape names e) width)) (typed_answer names e width) none (typed-fits names right e width)

  pub placed_fit : (e : Tree) (context : Shape) → answer_faults (placed_answer names e context) ≡ [] → IsFitAt (placed_shape (own_shape names e) context) (typed_or (placed_answer names e context))
  placed_fit e context none = of_good (IsFitAt (placed_shape (own_shape names e) context)) (placed_answer names e context) none (placed-fits names right e context)

module _ (room : ℕ → ℕ) (names : Names) (right : AreMeanings names) (inside : HaveWidths room names) where
  pub at_reads : (e : Tree) (width : ℕ) → answer_faults (typed_answer names e width) ≡ [] → ReadsInside room (typed_at names e width)
  at_reads e width none =
      of_good (ReadsInside room) (typed_answer names e width) none
      (typed-reads room names right inside true false e (widened_shape (own_shape names e) width) (omega arith))

  pub at_fits : (e : Tree) (width : ℕ) → answer_faults (typed_answer names e width) ≡ [] → ExpressionFits room (typed_at names e width)
  at_fits e width none = record { fit = (at_fit names right e width none).fit; inside = at_reads e width none }

  pub placed_fits : (e : Tree) (context : Shape) → answer_faults (placed_answer names e context) ≡ [] → ExpressionFits room (typed_or (placed_answer names e context))
  placed_fits e context none = record {
    fit = (placed_fit names right e context none).fit;
    inside = of_good (ReadsInside room) (placed_answer names e context) none
        (typed-reads room names right inside true false e (placed_shape (own_shape names e) context) (omega arith));
  }
