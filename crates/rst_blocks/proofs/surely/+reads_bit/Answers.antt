use Rattle.std.proofs.Common.{◌∙◌, sym, ap, List}
use Rattle.rst_width.specs.declared.typed_expr.TypedExpr.{TypedExpr}
use Rattle.rst_width.specs.declared.typed_expr.TypedNode.{TypedNode}
use Rattle.rst_width.specs.Typed.{Node, plain_node, plain_all}
use Rattle.rst_width.proofs.Rows.{plain_node-Repeat}
use Rattle.rst_cycle.specs.Drivers.{target_has}
use Rattle.rst_blocks.specs.Reads.{node_reads, list_reads}
use Rattle.rst_blocks.proofs.surely.+reads_bit.Goals as goal

pub reads-returns-in-Repeat : goal.reads-returns-in-Repeat
reads-returns-in-Repeat t c =
    c.any_reads-in-Repeat.ensures
    ∙ ap (λ (xs : List TypedExpr). target_has (list_reads (plain_all xs)) c.args.bit.signal c.args.bit.place) c.deref-in-Repeat.ensures.value
    ∙ sym (ap (λ (n : TypedNode). target_has (node_reads (plain_node n)) c.args.bit.signal c.args.bit.place) c.in-Repeat.is
    ∙ ap (λ (n : Node). target_has (node_reads n) c.args.bit.signal c.args.bit.place) (plain_node-Repeat c.in-Repeat.field-0 c.in-Repeat.parts))
