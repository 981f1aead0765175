-- What the public calls answer, from what their steps give on cut widths.
use Rattle.std.proofs.Common.{◌≡◌, ◌∙◌, ℕ, false, true, max, Result, Ok, Err, subst, sym, ap, inl, inr, arith}
use Rattle.std.proofs.lemmas.Bool.Decides.{leb_tells}
use Rattle.std.specs.Prelude.{IfOk}
use Rattle.rst_width.specs.declared.typed_expr.Shape.{Shape}
use Rattle.rst_width.specs.declared.typed_expr.TypedExpr.{TypedExpr}
use Rattle.rst_width.specs.declared.typed_expr.WidthFault.{WidthFault}
use Rattle.rst_width.specs.declared.typed_expr.WidthFault.TheVariants as fault
use Rattle.rst_width.specs.Typed.{Typed, plain_typed, sized_as}
use Rattle.rst_width.specs.Plain.{plain_answer}
use Rattle.rst_width.specs.Sized.{Answer, Sized, own, in_context, by_itself}
use Rattle.rst_width.specs.Answers.{Gives, widened_shape, placed_shape}
use Rattle.rst_width.specs.Cut.{cut, cut_shape}
use Rattle.rst_width.proofs.Cuts.{own-cut, in_context-cut, by_itself-cut, wider-cut, same_when_narrow, wide, wide_fault}

-- a fault that is answered
pub gives_fault : {X Y : Type 0} (view : X → Y) (e : WidthFault) (answer : Result Y WidthFault) → answer ≡ Err e → Gives view (Err e) answer
gives_fault view (fault.NoName n) answer is = is
gives_fault view fault.TooWide answer is = is
gives_fault view fault.ZeroWidth answer is = is
gives_fault view fault.BadSelect answer is = is
gives_fault view fault.MayLeaveRange answer is = is
gives_fault view fault.NotConstant answer is = is
gives_fault view fault.ZeroDivisor answer is = is
gives_fault view fault.NoMemory answer is = tt

pub gives_typed : (answer : Result TypedExpr WidthFault) (expected : Answer) → plain_answer answer ≡ expected → Gives plain_typed answer expected
gives_typed (Ok e) expected is = sym is
gives_typed (Err e) expected is = gives_fault plain_typed e expected (sym is)

-- what holds of an answer holds of the code's, by its plain form
pub carried : (P : Typed → Type 0) (r : Result TypedExpr WidthFault) (a : Answer) → plain_answer r ≡ a → IfOk a P → IfOk r (λ e. P (plain_typed e))
carried P (Ok e) a is h = subst (λ (x : Answer). IfOk x P) (sym is) h
carried P (Err fault) a is h = tt

own_is : (s code : Sized) (o : Shape) → code ≡ cut s → o ≡ own code → o ≡ cut_shape (own s)
own_is s code o e f = f ∙ ap own e ∙ own-cut s

-- in a context of this width, with the own sign
pub typed_call : (s code : Sized) (o context : Shape) (c : ℕ) → code ≡ cut s → o ≡ own code → context ≡ widened_shape o c
    → in_context true code context ≡ in_context true s (widened_shape (own s) c)
typed_call s code o context c e f g = rw (e, g, own_is s code o e f) (wider-cut true s (own s).width c (own s).signed)

-- in a context of this width and sign
pub placed_call : (s code : Sized) (o outer context : Shape) → code ≡ cut s → o ≡ own code → context ≡ placed_shape o outer
    → in_context true code context ≡ in_context true s (placed_shape (own s) outer)
placed_call s code o outer context e f g = rw (e, g, own_is s code o e f) (wider-cut true s (own s).width outer.width outer.signed)

-- by itself
pub alone_call : (s code : Sized) → code ≡ cut s → by_itself code ≡ by_itself s
alone_call s code e = rw e (by_itself-cut s)

pub no_context : (s : Sized) → by_itself s ≡ in_context true s (widened_shape (own s) 0)
no_context s = ap (λ (w : ℕ). in_context true s (sized_as w (own s).signed)) (max_zero (own s).width)
  where
    max_zero : (w : ℕ) → w ≡ max w 0
    max_zero w = omega arith

-- by itself, without a look at divisors
pub shape_call : (s code : Sized) (o : Shape) → code ≡ cut s → o ≡ own code → in_context false code o ≡ in_context false s (own s)
shape_call s code o e f = rw (e, own_is s code o e f) (in_context-cut false s (own s))

-- what is typed has at most 64 bits, so that its width stands as it is
pub own_when_typed : (s code : Sized) (o : Shape) (t : Typed) → code ≡ cut s → o ≡ own code → in_context false s (own s) ≡ Ok t → o ≡ own s
own_when_typed s code o t e f is =
    elim (leb_tells (own s).width 64) [
      | inl h ↦ own_is s code o e f ∙ same_when_narrow (own s) h.1
      | inr h ↦ let no : Err (wide_fault s) ≡ Ok t = sym (wide false s (own s) h.1) ∙ is in cc
    ]
