use Rattle.std.proofs.Common.{◌∙◌, sym, ap, List}
use Rattle.rst_width.specs.declared.typed_expr.TypedExpr.{TypedExpr}
use Rattle.rst_width.specs.declared.typed_expr.TypedNode.{TypedNode}
use Rattle.rst_width.specs.Typed.{plain_node, plain_all, node_names, list_names}
use Rattle.rst_width.proofs.Rows.{plain_node-Repeat}
use Rattle.rst_width.proofs.values.+names.Goals as goal

pub names_signal-returns-in-Repeat : goal.names_signal-returns-in-Repeat
names_signal-returns-in-Repeat t c =
    c.list_names-in-Repeat.ensures
    ∙ ap (λ (xs : List TypedExpr). list_names (plain_all xs)) c.deref-in-Repeat.ensures.value
    ∙ sym (ap (λ (n : TypedNode). node_names (plain_node n)) c.in-Repeat.is ∙ ap node_names (plain_node-Repeat c.in-Repeat.field-0 c.in-Repeat.parts))
