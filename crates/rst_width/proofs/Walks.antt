-- What the code's answers are, from the lemmas on sized expressions.
use Rattle.std.proofs.Common.{◌≡◌, ◌≤◌, Bool, true, false, Result, Ok, Err, sym, subst}
use Rattle.std.specs.Prelude.{IfOk, IsTrue}
use Rattle.rst_width.specs.declared.typed_expr.Shape.{Shape}
use Rattle.rst_width.specs.declared.typed_expr.TypedExpr.{TypedExpr}
use Rattle.rst_width.specs.declared.typed_expr.WidthFault.{WidthFault}
use Rattle.rst_width.specs.Typed.{plain_typed}
use Rattle.rst_width.specs.Plain.{plain_answer}
use Rattle.rst_width.specs.Sized.{Sized, own, in_context}
use Rattle.rst_width.specs.Fit.{IsFit, FitsIn}
use Rattle.rst_width.specs.Cut.{IsFitSized}
use Rattle.rst_width.proofs.Fits.{in_context-fit}

-- what a walk with tests answers fits
pub answer_fits : (tests : Bool) (s : Sized) (context : Shape) (answer : Result TypedExpr WidthFault) → IsTrue tests
    → plain_answer answer ≡ in_context tests s context → IsFitSized s → (own s).width ≤ context.width → IfOk answer (λ e. IsFit (plain_typed e))
answer_fits true s context (Ok e) on is fit inside =
    let here : FitsIn context (Ok (plain_typed e)) = subst (FitsIn context) (sym is) (in_context-fit s context fit inside) in here.fit
answer_fits true s context (Err fault) on is fit inside = tt
answer_fits false s context answer on is fit inside = cc

-- what holds for each `b` holds for this one
pub for_one : {A E : Type 0} (P : A → Bool → Type 0) (r : Result A E) (b : Bool) → IfOk r (λ x. (c : Bool) → P x c) → IfOk r (λ x. P x b)
for_one P (Ok x) b h = h b
for_one P (Err e) b h = tt
