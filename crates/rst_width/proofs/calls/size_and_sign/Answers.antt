use Rattle.std.proofs.Common.{◌≡◌, ◌≤◌, ◌∙◌, false, Ok, Err, refl, sym, ap, subst, arith}
use Rattle.std.specs.Prelude.{IfOk}
use Rattle.rst_width.specs.declared.typed_expr.Shape.{Shape}
use Rattle.rst_width.specs.Fit.{IsShape}
use Rattle.rst_width.proofs.Fits.{in_context-bits}
use Rattle.rst_tree.specs.Trees.{plain}
use Rattle.rst_width.specs.Typed.{plain_typed}
use Rattle.rst_width.specs.Scopes.{names_of}
use Rattle.rst_width.specs.Sizing.{sized}
use Rattle.rst_width.specs.Sized.{Answer, own, in_context}
use Rattle.rst_width.specs.Answers.{same_shape}
use Rattle.rst_width.specs.Plain.{plain_sized, plain_answer}
use Rattle.rst_width.proofs.Outcomes.{gives_fault, shape_call, own_when_typed}
use Rattle.rst_width.proofs.calls.size_and_sign.Goals as goal

pub returns-in-Ok-clause-exact : goal.returns-in-Ok-clause-exact
returns-in-Ok-clause-exact c =
    let s = sized false (names_of c.args.scope.now) (plain c.args.expr.now) in
    let is = shape_call s (plain_sized c.in_ok-sized.sized) c.own-shape.result c.in_ok-sized.ensures.exact c.own-shape.ensures in
    let found : in_context false s (own s) ≡ Ok (plain_typed c.in-Ok.typed) = sym is ∙ sym c.in_ok-typed.ensures ∙ ap plain_answer c.in-Ok.is in
    rw found (ap Ok (sym (own_when_typed s (plain_sized c.in_ok-sized.sized) c.own-shape.result (plain_typed c.in-Ok.typed) c.in_ok-sized.ensures.exact c.own-shape.ensures found)))

pub returns-in-Err-clause-exact : goal.returns-in-Err-clause-exact
returns-in-Err-clause-exact c =
    let s = sized false (names_of c.args.scope.now) (plain c.args.expr.now) in
    let is = shape_call s (plain_sized c.in_ok-sized.sized) c.own-shape.result c.in_ok-sized.ensures.exact c.own-shape.ensures in
    let found : in_context false s (own s) ≡ Err c.in-Err.fault = sym is ∙ sym c.in_ok-typed.ensures ∙ ap plain_answer c.in-Err.is in
    gives_fault same_shape c.in-Err.fault _ (rw found refl)

pub returns-in-Ok-clause-bits : goal.returns-in-Ok-clause-bits
returns-in-Ok-clause-bits c =
    let shape = c.own-shape.result in
    let s = plain_sized c.in_ok-sized.sized in
    let own_is : shape ≡ own s = c.own-shape.ensures in
    let wide : (own s).width ≤ shape.width = omega (arith, ap (λ (x : Shape). x.width) own_is) in
    let found : in_context false s shape ≡ Ok (plain_typed c.in-Ok.typed) = sym c.in_ok-typed.ensures ∙ ap plain_answer c.in-Ok.is in
    subst (λ (r : Answer). IfOk r (λ _. IsShape shape)) found (in_context-bits false s shape c.in_ok-sized.ensures.fit wide)
