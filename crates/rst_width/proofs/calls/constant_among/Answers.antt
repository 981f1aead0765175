use Rattle.std.proofs.Common.{◌≡◌, ◌∙◌, true, Ok, Err, refl, sym, ap}
use Rattle.rst_tree.specs.Trees.{plain}
use Rattle.rst_word.specs.Plain.{plain_word}
use Rattle.rst_width.specs.Typed.{plain_typed}
use Rattle.rst_width.specs.Scopes.{names_with}
use Rattle.rst_width.specs.Sizing.{sized}
use Rattle.rst_width.specs.Sized.{own, in_context}
use Rattle.rst_width.specs.Answers.{widened_shape, constant_answer}
use Rattle.rst_width.specs.Plain.{plain_sized, plain_answer}
use Rattle.rst_width.proofs.AgreeSizing.{constant_value}
use Rattle.rst_width.proofs.Outcomes.{gives_fault, typed_call}
use Rattle.rst_width.proofs.calls.constant_among.Goals as goal

pub returns-in-Ok : goal.returns-in-Ok
returns-in-Ok c =
    let s = sized true (names_with c.args.scope.now c.args.unshaped.now) (plain c.args.expr.now) in
    let is = typed_call s (plain_sized c.in_ok-sized.sized) c.own.result c.widened-context.result c.args.context c.in_ok-sized.ensures.exact c.own.ensures c.widened-context.ensures in
    let found : in_context true s (widened_shape (own s) c.args.context) ≡ Ok (plain_typed c.in-Ok.typed) = sym is ∙ sym c.in_ok-typed.ensures.exact ∙ ap plain_answer c.in-Ok.is in
    let exact : constant_answer (names_with c.args.scope.now c.args.unshaped.now) (plain c.args.expr.now) c.args.context ≡ Ok (plain_word c.constant_word-word.result) = rw found (ap Ok (sym c.constant_word-word.ensures)) in
    record { exact = exact; value = constant_value (names_with c.args.scope.now c.args.unshaped.now) (plain c.args.expr.now) c.args.context (plain_word c.constant_word-word.result) exact }

pub returns-in-Err : goal.returns-in-Err
returns-in-Err c =
    let s = sized true (names_with c.args.scope.now c.args.unshaped.now) (plain c.args.expr.now) in
    let is = typed_call s (plain_sized c.in_ok-sized.sized) c.own.result c.widened-context.result c.args.context c.in_ok-sized.ensures.exact c.own.ensures c.widened-context.ensures in
    let found : in_context true s (widened_shape (own s) c.args.context) ≡ Err c.in-Err.fault = sym is ∙ sym c.in_ok-typed.ensures.exact ∙ ap plain_answer c.in-Err.is in
    record { exact = gives_fault plain_word c.in-Err.fault _ (rw found refl); value = tt }
