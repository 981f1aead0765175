use Rattle.std.proofs.Common.{◌∙◌, sym, ap, ◌+◌, List, map, arith}
use Rattle.rst_width.specs.declared.typed_expr.TypedExpr.{TypedExpr}
use Rattle.rst_width.specs.declared.typed_expr.TypedNode.{TypedNode}
use Rattle.rst_width.specs.Typed.{Node, plain_node, plain_all, sized_as}
use Rattle.rst_width.proofs.Rows.{plain_node-Repeat}
use Rattle.rst_net.specs.Units.{plain_signal}
use Rattle.rst_weight.specs.Weights.{node_weight, list_weight}
use Rattle.rst_weight.specs.Plain.{cut}
use Rattle.rst_weight.proofs.Sums.{list-none}
use Rattle.rst_weight.proofs.weights.+weights.Goals as goal

pub list_weight-returns : goal.list_weight-returns
list_weight-returns t c = omega (arith, list-none (map plain_signal c.args.signals.now) c.args.parts.now c.loop-part.part-index)

pub expr_weight-returns-in-Repeat : goal.expr_weight-returns-in-Repeat
expr_weight-returns-in-Repeat t c =
    let signals = map plain_signal c.args.signals.now in
    let shape = sized_as c.args.expr.now.width c.args.expr.now.signed in
    c.list_weight-in-Repeat.ensures
    ∙ ap (λ (xs : List TypedExpr). cut (c.args.sum + list_weight signals (plain_all xs))) c.deref-in-Repeat.ensures.value
    ∙ sym (ap (λ (n : TypedNode). cut (c.args.sum + node_weight signals shape (plain_node n))) c.in-Repeat.is
    ∙ ap (λ (n : Node). cut (c.args.sum + node_weight signals shape n)) (plain_node-Repeat c.in-Repeat.field-0 c.in-Repeat.parts))
