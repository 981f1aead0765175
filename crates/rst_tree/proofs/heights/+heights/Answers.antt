use Rattle.std.proofs.Common.{◌≡◌, ◌∙◌, ap, suc, max, List, arith}
use Rattle.rst_tree.specs.declared.expr.Expr.{Expr}
use Rattle.rst_tree.specs.Trees.{plain, plain_all, height, greatest}
use Rattle.rst_tree.proofs.Rows.{greatest-none, height-Repeat}
use Rattle.rst_tree.proofs.heights.+heights.Goals as goal

pub greatest-returns : goal.greatest-returns
greatest-returns t c = omega (arith, greatest-none c.args.exprs.now c.loop-expr.expr-index)

pub height-returns-in-Repeat : goal.height-returns-in-Repeat
height-returns-in-Repeat t c =
    let whole : height (plain c.args.expr.now) ≡ suc (max (height (plain c.in-Repeat.count.value)) (greatest (plain_all c.in-Repeat.parts.items))) =
    ap (λ (x : Expr). height (plain x)) c.in-Repeat.is ∙ height-Repeat c.in-Repeat.count c.in-Repeat.parts in
    let count : height (plain c.deref-in-Repeat.result.now) ≡ height (plain c.in-Repeat.count.value) = ap (λ (x : Expr). height (plain x)) c.deref-in-Repeat.ensures in
    let parts : greatest (plain_all c.deref-in-Repeat-2.result.now) ≡ greatest (plain_all c.in-Repeat.parts.items) = ap (λ (xs : List Expr). greatest (plain_all xs)) c.deref-in-Repeat-2.ensures.value in
    omega (arith, whole, count, parts, c.above-in-Repeat.ensures, c.max-in-Repeat.ensures, c.height-in-Repeat.ensures, c.greatest-in-Repeat.ensures)
