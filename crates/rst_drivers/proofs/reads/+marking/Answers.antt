use Rattle.std.proofs.Common.{◌≡◌, ◌∙◌, List, sym, ap, subst}
use Rattle.rst_width.specs.declared.typed_expr.TypedExpr.{TypedExpr}
use Rattle.rst_width.specs.Typed.{Node, Repeat, plain_node, plain_all}
use Rattle.rst_width.proofs.Rows.{plain_node-Repeat}
use Rattle.rst_drivers.specs.Drives.{reads_at, one_reads}
use Rattle.rst_drivers.specs.Marks.{Marks}
use Rattle.rst_drivers.proofs.reads.+marking.Goals as goal

pub mark-returns-in-Repeat : goal.mark-returns-in-Repeat
mark-returns-in-Repeat t c =
    let e : plain_node c.args.expr.now.node ≡ Repeat c.in-Repeat.field-0 (plain_all c.in-Repeat.parts.items) =
    ap plain_node c.in-Repeat.is ∙ plain_node-Repeat c.in-Repeat.field-0 c.in-Repeat.parts in
    subst (λ (n : Node). Marks (λ i. reads_at i n) c.args.marks.now c.mark_all-in-Repeat.new.marks) (sym e)
    (subst (λ (xs : List TypedExpr). Marks (λ i. one_reads i (plain_all xs)) c.args.marks.now c.mark_all-in-Repeat.new.marks) c.deref-in-Repeat.ensures.value c.mark_all-in-Repeat.ensures)
