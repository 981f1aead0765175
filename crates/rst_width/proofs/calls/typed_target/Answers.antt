use Rattle.std.proofs.Common.{◌≡◌, ◌∙◌, true, false, arith, ap}
use Rattle.rst_tree.specs.Targets.{plain_target}
use Rattle.rst_width.specs.Scopes.{Names, names_of}
use Rattle.rst_width.specs.Typed.{Typed, shape_of}
use Rattle.rst_width.specs.Sizing.{sized}
use Rattle.rst_width.specs.Sized.{own, by_itself}
use Rattle.rst_width.specs.Plain.{plain_sized}
use Rattle.rst_width.specs.Cut.{cut}
use Rattle.rst_width.specs.Reads.{ReadsInside}
use Rattle.rst_width.specs.Targets.{target_expr, IsPlace}
use Rattle.rst_width.proofs.NameTables.{names_of-meant, names_alone}
use Rattle.rst_width.proofs.ReadsSized.{typed-reads}
use Rattle.rst_width.proofs.SizingFits.{sized-fit}
use Rattle.rst_width.proofs.Fits.{by_itself-fit}
use Rattle.rst_width.proofs.AnswersFit.{only_shape}
use Rattle.rst_width.proofs.TargetSizing.{target-place}
use Rattle.rst_width.proofs.Outcomes.{gives_typed, carried, alone_call, no_context}
use Rattle.rst_width.proofs.calls.typed_target.Goals as goal

pub returns-clause-exact : goal.returns-clause-exact
returns-clause-exact c =
    let e = target_expr (plain_target c.args.target.now) in
    let named = c.in_ok-sized.ensures.exact ∙ ap (λ (names : Names). cut (sized false names e)) (names_alone c.args.scope.now c.new-unshaped.result c.new-unshaped.ensures) in
    let is = c.in_ok-by_itself.ensures.exact ∙ alone_call (sized false (names_of c.args.scope.now) e) (plain_sized c.in_ok-sized.sized) named in
    gives_typed c.in_ok-by_itself.field-0 _ (is ∙ no_context (sized false (names_of c.args.scope.now) e))

pub returns-clause-shape : goal.returns-clause-shape
returns-clause-shape c =
    let e = target_expr (plain_target c.args.target.now) in
    let s = sized false (names_of c.args.scope.now) e in
    let named = c.in_ok-sized.ensures.exact ∙ ap (λ (names : Names). cut (sized false names e)) (names_alone c.args.scope.now c.new-unshaped.result c.new-unshaped.ensures) in
    let is = c.in_ok-by_itself.ensures.exact ∙ alone_call s (plain_sized c.in_ok-sized.sized) named in
    carried (λ (t : Typed). shape_of t ≡ own s) c.in_ok-by_itself.field-0 _ is
    (only_shape (own s) (by_itself s) (by_itself-fit s (sized-fit false (names_of c.args.scope.now) (names_of-meant c.args.scope.now) e)))

pub returns-clause-places : goal.returns-clause-places
returns-clause-places c =
    let e = target_expr (plain_target c.args.target.now) in
    let named = c.in_ok-sized.ensures.exact ∙ ap (λ (names : Names). cut (sized false names e)) (names_alone c.args.scope.now c.new-unshaped.result c.new-unshaped.ensures) in
    let is = c.in_ok-by_itself.ensures.exact ∙ alone_call (sized false (names_of c.args.scope.now) e) (plain_sized c.in_ok-sized.sized) named in
    carried IsPlace c.in_ok-by_itself.field-0 _ is (target-place (names_of c.args.scope.now) (plain_target c.args.target.now))

pub returns-clause-inside : goal.returns-clause-inside
returns-clause-inside c = λ widths right.
    let e = target_expr (plain_target c.args.target.now) in
    let s = sized false (names_of c.args.scope.now) e in
    let named = c.in_ok-sized.ensures.exact ∙ ap (λ (names : Names). cut (sized false names e)) (names_alone c.args.scope.now c.new-unshaped.result c.new-unshaped.ensures) in
    let is = c.in_ok-by_itself.ensures.exact ∙ alone_call s (plain_sized c.in_ok-sized.sized) named in
    carried (ReadsInside widths) c.in_ok-by_itself.field-0 _ is
    (typed-reads widths (names_of c.args.scope.now) (names_of-meant c.args.scope.now) right true false e (own s) (omega arith))
