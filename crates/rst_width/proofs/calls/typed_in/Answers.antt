use Rattle.std.proofs.Common.{◌≡◌, ◌∙◌, true, false, arith}
use Rattle.rst_tree.specs.Trees.{plain}
use Rattle.rst_width.specs.Scopes.{names_of}
use Rattle.rst_width.specs.Typed.{Typed, shape_of}
use Rattle.rst_width.specs.Sizing.{sized}
use Rattle.rst_width.specs.Sized.{own}
use Rattle.rst_width.specs.Plain.{plain_sized}
use Rattle.rst_width.specs.Reads.{ReadsInside}
use Rattle.rst_width.specs.Answers.{placed_shape}
use Rattle.rst_width.proofs.NameTables.{names_of-meant}
use Rattle.rst_width.proofs.ReadsSized.{typed-reads}
use Rattle.rst_width.proofs.AnswersFit.{only_shape, placed-fits}
use Rattle.rst_width.proofs.Outcomes.{gives_typed, carried, placed_call}
use Rattle.rst_width.proofs.calls.typed_in.Goals as goal

pub returns-clause-exact : goal.returns-clause-exact
returns-clause-exact c = gives_typed c.in_ok-in_context.field-0 _ (c.in_ok-in_context.ensures.exact ∙ placed_call (sized false (names_of c.args.scope.now) (plain c.args.expr.now)) (plain_sized c.in_ok-sized.sized) c.own.result c.args.context c.placed-context.result c.in_ok-sized.ensures.exact c.own.ensures c.placed-context.ensures)

pub returns-clause-shape : goal.returns-clause-shape
returns-clause-shape c =
    let names = names_of c.args.scope.now in
    let s = sized false names (plain c.args.expr.now) in
    carried (λ (t : Typed). shape_of t ≡ placed_shape (own s) c.args.context) c.in_ok-in_context.field-0 _ (c.in_ok-in_context.ensures.exact ∙ placed_call (sized false (names_of c.args.scope.now) (plain c.args.expr.now)) (plain_sized c.in_ok-sized.sized) c.own.result c.args.context c.placed-context.result c.in_ok-sized.ensures.exact c.own.ensures c.placed-context.ensures)
    (only_shape (placed_shape (own s) c.args.context) _ (placed-fits names (names_of-meant c.args.scope.now) (plain c.args.expr.now) c.args.context))

pub returns-clause-inside : goal.returns-clause-inside
returns-clause-inside c = λ widths right.
    let names = names_of c.args.scope.now in
    let s = sized false names (plain c.args.expr.now) in
    carried (ReadsInside widths) c.in_ok-in_context.field-0 _ (c.in_ok-in_context.ensures.exact ∙ placed_call (sized false (names_of c.args.scope.now) (plain c.args.expr.now)) (plain_sized c.in_ok-sized.sized) c.own.result c.args.context c.placed-context.result c.in_ok-sized.ensures.exact c.own.ensures c.placed-context.ensures)
    (typed-reads widths names (names_of-meant c.args.scope.now) right true false (plain c.args.expr.now) (placed_shape (own s) c.args.context) (omega arith))
