use Rattle.std.proofs.Common.{◌≡◌, ◌∙◌, List, false, refl, sym, ap}
use Rattle.std.proofs.lemmas.Result.{err_from_is_err_and}
use Rattle.rst_tree.specs.declared.expr.Expr.{Expr}
use Rattle.rst_tree.specs.Trees.{plain, plain_all}
use Rattle.rst_tree.specs.Statements.{plain_arms}
use Rattle.rst_width.specs.declared.typed_expr.Shape.{Shape}
use Rattle.rst_width.specs.Scopes.{names_of}
use Rattle.rst_width.specs.Typed.{plain_typed}
use Rattle.rst_typing.specs.Typing.{typed_labels, label_faults}
use Rattle.rst_typing.specs.Parts.{cut_arms}
use Rattle.rst_typing.proofs.Arms.{labels_read}
use Rattle.rst_typing.proofs.Loops.{arm_read}
use Rattle.rst_typing.proofs.Cases.{selector_refuses, arms_refuse, case_passes, case_is}
use Rattle.rst_typing.proofs.stmts.+typed_stmts.Goals as goal

pub push_arm-returns-in_ok-push-in-Labels-clause-exact : goal.push_arm-returns-in_ok-push-in-Labels-clause-exact
push_arm-returns-in_ok-push-in-Labels-clause-exact t c = λ others all left.
    let names = names_of c.args.names.now in
    let items = c.deref.ensures.value in
    labels_read names c.args.shape c.args.arm.now others c.in-Labels.labels c.in-Labels.body c.in-Labels.is c.args.made.now
    (record { arms = c.push.new.self; otherwise = c.args.made.now.otherwise }) all (record { labels = c.in_ok-labels-in-Labels.labels; body = c.in_ok-body-in-Labels.body })
    c.in_ok-push-in-Labels.ensures.items refl
    (c.in_ok-labels-in-Labels.ensures.exact ∙ ap (λ (es : List Expr). typed_labels names c.args.shape (plain_all es)) items)
    c.in_ok-body-in-Labels.ensures.exact c.in_ok-labels-in-Labels.ensures.fit
    (sym (ap (λ (es : List Expr). label_faults names c.args.shape (plain_all es)) items) ∙ c.in_ok-labels-in-Labels.ensures.passes)
    c.in_ok-body-in-Labels.ensures.passes left

pub typed_arms-loop-arm-preserved : goal.typed_arms-loop-arm-preserved
typed_arms-loop-arm-preserved t c =
    arm_read (names_of c.args.names.now) c.args.shape c.args.arms.now c.loop-arm.arm-index c.arm-item.result c.loop-arm-test.true c.arm-item.is
    c.loop-arm.made c.push_arm.new.made c.in_ok-push_arm.ensures.exact c.loop-arm.invariant

pub typed_case-returns-in_err-selector-clause-refused : goal.typed_case-returns-in_err-selector-clause-refused
typed_case-returns-in_err-selector-clause-refused t c =
    let names = names_of c.args.names.now in
    let is : c.in_ok-shape.shape ≡ _ = c.in_ok-shape.ensures ∙ ap (λ (s : Shape). cut_arms names s (plain_arms c.args.arms.now)) c.in_ok-own.ensures in
    let p = err_from_is_err_and c.from_residual-in_err-selector.result c.from_residual-in_err-selector.ensures.1 in
    rw (p.1, p.2) (selector_refuses names false (plain c.args.selector.now) (plain_arms c.args.arms.now) c.in_ok-shape.shape is c.in_err-selector.field-0.0 c.in_err-selector.ensures.refused)

pub typed_case-returns-in_err-made-clause-refused : goal.typed_case-returns-in_err-made-clause-refused
typed_case-returns-in_err-made-clause-refused t c =
    let names = names_of c.args.names.now in
    let is : c.in_ok-shape.shape ≡ _ = c.in_ok-shape.ensures ∙ ap (λ (s : Shape). cut_arms names s (plain_arms c.args.arms.now)) c.in_ok-own.ensures in
    let p = err_from_is_err_and c.from_residual-in_err-made.result c.from_residual-in_err-made.ensures.1 in
    rw (p.1, p.2) (arms_refuse names false (plain c.args.selector.now) (plain_arms c.args.arms.now) c.in_ok-shape.shape is c.in_err-made.field-0.0 c.in_ok-selector.ensures.passes c.in_err-made.ensures.refused)

pub typed_case-returns-clause-exact : goal.typed_case-returns-clause-exact
typed_case-returns-clause-exact t c =
    let names = names_of c.args.names.now in
    let is : c.in_ok-shape.shape ≡ _ = c.in_ok-shape.ensures ∙ ap (λ (s : Shape). cut_arms names s (plain_arms c.args.arms.now)) c.in_ok-own.ensures in
    c.case_of.ensures
    ∙ case_is names false (plain c.args.selector.now) (plain_arms c.args.arms.now) c.in_ok-shape.shape is (plain_typed c.in_ok-selector.selector.value) c.in_ok-made.made
    c.in_ok-own.own.width (ap (λ (s : Shape). s.width) c.in_ok-own.ensures) c.in_ok-selector.ensures.exact c.in_ok-made.ensures.exact

pub typed_case-returns-clause-passes : goal.typed_case-returns-clause-passes
typed_case-returns-clause-passes t c =
    let names = names_of c.args.names.now in
    let is : c.in_ok-shape.shape ≡ _ = c.in_ok-shape.ensures ∙ ap (λ (s : Shape). cut_arms names s (plain_arms c.args.arms.now)) c.in_ok-own.ensures in
    case_passes names false (plain c.args.selector.now) (plain_arms c.args.arms.now) c.in_ok-shape.shape is c.in_ok-made.made c.in_ok-selector.ensures.passes c.in_ok-made.ensures.exact
