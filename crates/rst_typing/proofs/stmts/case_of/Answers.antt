use Rattle.std.proofs.Common.{◌≡◌, ◌∙◌, List, ap}
use Rattle.rst_width.specs.declared.typed_expr.TypedExpr.{TypedExpr}
use Rattle.rst_width.specs.Typed.{plain_typed}
use Rattle.rst_net.specs.declared.stmt.TypedArm.{TypedArm}
use Rattle.rst_net.specs.Statements.{Case, plain_arms}
use Rattle.rst_typing.specs.Typing.{is_full}
use Rattle.rst_typing.specs.Refusals.{labels_in}
use Rattle.rst_typing.specs.Parts.{plain_default}
use Rattle.rst_typing.proofs.Rows.{plain_case-is}
use Rattle.rst_typing.proofs.stmts.case_of.Goals as goal

pub returns : goal.returns
returns c =
    let full : c.is_full-full.result ≡ is_full c.args.own_width (plain_typed c.args.selector.value) (labels_in c.args.made.arms.items) =
    c.is_full-full.ensures
    ∙ ap (λ (e : TypedExpr). is_full c.args.own_width (plain_typed e) (labels_in c.deref-2.result.now)) c.deref.ensures
    ∙ ap (λ (arms : List TypedArm). is_full c.args.own_width (plain_typed c.args.selector.value) (labels_in arms)) c.deref-2.ensures.value in
    plain_case-is c.args.selector c.args.made.arms c.args.made.otherwise c.is_full-full.result
    ∙ ap (Case (plain_typed c.args.selector.value) (plain_arms c.args.made.arms.items) (plain_default c.args.made.otherwise)) full
