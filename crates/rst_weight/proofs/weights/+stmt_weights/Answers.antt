use Rattle.std.proofs.Common.{◌≡◌, ◌∙◌, sym, ap, subst, ℕ, List, length, map, IfOk, arith}
use Rattle.rst_width.specs.declared.typed_expr.TypedExpr.{TypedExpr}
use Rattle.std.proofs.lemmas.List.{length-map}
use Rattle.rst_net.specs.declared.signal.Signal.{Signal}
use Rattle.rst_net.specs.declared.stmt.TypedCase.{TypedCase}
use Rattle.rst_net.specs.Statements.{plain_case}
use Rattle.rst_net.specs.Units.{plain_signal}
use Rattle.rst_weight.specs.Counts.{bits_set}
use Rattle.rst_weight.specs.Plain.{cut}
use Rattle.rst_weight.proofs.Sums.{stmts-none, arms-none, case_sum}
use Rattle.rst_weight.proofs.weights.+stmt_weights.Goals as goal

pub stmts_weight-returns : goal.stmts_weight-returns
stmts_weight-returns t c = omega (arith, stmts-none (map plain_signal c.args.signals.now) c.args.parts.now c.loop-part.part-index)

pub arms_weight-returns : goal.arms_weight-returns
arms_weight-returns t c = omega (arith, arms-none (map plain_signal c.args.signals.now) c.args.width c.args.bits c.args.arms.now c.loop-arm.arm-index)

bits : (signals : List Signal) (case : TypedCase) (n : ℕ) → n ≡ cut (bits_set (length signals) (plain_case case)) → n ≡ cut (bits_set (length (map plain_signal signals)) (plain_case case))
bits signals case n e = e ∙ ap (λ k. cut (bits_set k (plain_case case))) (sym (length-map signals plain_signal))

pub case_weight-returns : goal.case_weight-returns
case_weight-returns t c =
    subst (λ (n : ℕ). IfOk c.default_weight.result (λ all. all ≡ n))
    (case_sum (map plain_signal c.args.signals.now) c.args.sum c.args.bits c.expr_weight-selected.result c.in_ok-arms.arms c.deref-3.result.now.width c.args.case.now c.deref.result.now c.deref-2.result.now
    c.deref.ensures (ap (λ (e : TypedExpr). e.width) c.deref-3.ensures) c.deref-2.ensures.value (bits c.args.signals.now c.args.case.now c.args.bits c.requires) c.expr_weight-selected.ensures c.in_ok-arms.ensures)
    c.default_weight.ensures
