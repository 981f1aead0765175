-- What is typed has the width and sign of its context, and fits together.
use Rattle.std.proofs.Common.{◌≡◌, ℕ, false, Ok, Err, arith, subst}
use Rattle.std.specs.Prelude.{IfOk}
use Rattle.rst_tree.specs.Trees.{Tree}
use Rattle.rst_width.specs.declared.typed_expr.Shape.{Shape}
use Rattle.rst_width.specs.Scopes.{Names, AreMeanings}
use Rattle.rst_width.specs.Typed.{Typed, shape_of}
use Rattle.rst_width.specs.Sized.{Answer}
use Rattle.rst_width.specs.Sizing.{sized}
use Rattle.rst_width.specs.Answers.{own_shape, widened_shape, placed_shape, typed_answer, placed_answer}
use Rattle.rst_width.specs.Fit.{FitsIn}
use Rattle.rst_width.proofs.Fits.{in_context-fit}
use Rattle.rst_width.proofs.SizingFits.{sized-fit}

pub only_shape : (context : Shape) (answer : Answer) → FitsIn context answer → IfOk answer (λ e. shape_of e ≡ context)
only_shape context (Ok e) h = h.at
only_shape context (Err fault) h = tt

module _ (names : Names) (right : AreMeanings names) (e : Tree) where
  pub typed-fits : (width : ℕ) → FitsIn (widened_shape (own_shape names e) width) (typed_answer names e width)
  typed-fits width = in_context-fit (sized false names e) (widened_shape (own_shape names e) width) (sized-fit false names right e) (omega arith)

  pub placed-fits : (context : Shape) → FitsIn (placed_shape (own_shape names e) context) (placed_answer names e context)
  placed-fits context = in_context-fit (sized false names e) (placed_shape (own_shape names e) context) (sized-fit false names right e) (omega arith)

-- what holds of an answer holds of the typed expression in it
pub of_ok : (P : Typed → Type 0) (answer : Answer) (t : Typed) → answer ≡ Ok t → IfOk answer P → P t
of_ok P answer t is h = subst (λ (a : Answer). IfOk a P) is h
