use Rattle.std.proofs.Common.{◌≡◌, ◌∙◌, sym, ap, subst, ◌++◌, List, OnOk}
use Rattle.rst_width.specs.declared.typed_expr.TypedExpr.{TypedExpr}
use Rattle.rst_width.specs.declared.typed_expr.TypedNode.{TypedNode}
use Rattle.rst_width.specs.Typed.{plain_node, plain_all}
use Rattle.rst_width.proofs.Rows.{plain_node-Repeat}
use Rattle.rst_net.specs.declared.signal.Slice.{Slice}
use Rattle.rst_blocks.specs.Reads.{node_reads, list_reads}
use Rattle.rst_blocks.proofs.reads.+reads.Goals as goal

pub read_by-returns-in-Repeat : goal.read_by-returns-in-Repeat
read_by-returns-in-Repeat t c =
    let e : list_reads (plain_all c.deref-in-Repeat.result.now) ≡ node_reads (plain_node c.args.expr.now.node) =
    ap (λ (xs : List TypedExpr). list_reads (plain_all xs)) c.deref-in-Repeat.ensures.value
    ∙ sym (ap (λ (n : TypedNode). node_reads (plain_node n)) c.in-Repeat.is ∙ ap node_reads (plain_node-Repeat c.in-Repeat.field-0 c.in-Repeat.parts)) in
    subst (λ (s : List Slice). OnOk c.read_by_all-in-Repeat.result (c.read_by_all-in-Repeat.new.slices.items ≡ c.args.slices.now.items ++ s)) e c.read_by_all-in-Repeat.ensures
