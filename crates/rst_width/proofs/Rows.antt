-- The rows of a typed expression in memory are the lists of its plain form.
use Rattle.std.proofs.Common.{◌≡◌, ◌∙◌, refl, ap, ℕ}
use Rattle.std.specs.declared.vec.Vec.{Vec}
use Rattle.std.specs.declared.alloc.Global.{Global}
use mathlib.Core.Former.{Count}
use Rattle.rst_width.specs.declared.typed_expr.TypedExpr.{TypedExpr}
use Rattle.rst_width.specs.declared.typed_expr.TypedNode.{Row_of-TypedExpr, end_of-TypedExpr, more_of-TypedExpr, items-the_row-TypedExpr, items_hidden-the_row-TypedExpr-0}
use Rattle.rst_width.specs.declared.typed_expr.TypedNode.TheBlock.{hidden-the_row-TypedExpr-0}
use Rattle.rst_width.specs.declared.typed_expr.TypedNode.TheVariants as memory
use Rattle.rst_width.specs.Typed.{plain_row, plain_all, plain_node, more, typed, sized_as, Join, Repeat}

plain_row-items : {n : Count} (k : Row_of-TypedExpr n) → plain_row k ≡ plain_all (items-the_row-TypedExpr n k)
plain_row-items end_of-TypedExpr = refl
plain_row-items (more_of-TypedExpr w s x xs) = ap (more (typed (sized_as w s) (plain_node x))) (plain_row-items xs)

pub plain_row-hidden : (v : Vec TypedExpr Global) → plain_row (hidden-the_row-TypedExpr-0 v) ≡ plain_all v.items
plain_row-hidden v = plain_row-items (hidden-the_row-TypedExpr-0 v) ∙ ap plain_all (items_hidden-the_row-TypedExpr-0 v)

pub plain_node-Join : (v : Vec TypedExpr Global) → plain_node (memory.Join v) ≡ Join (plain_all v.items)
plain_node-Join v = ap Join (plain_row-hidden v)

pub plain_node-Repeat : (count : ℕ) (v : Vec TypedExpr Global) → plain_node (memory.Repeat count v) ≡ Repeat count (plain_all v.items)
plain_node-Repeat count v = ap (Repeat count) (plain_row-hidden v)

pub ruleset rows = (plain_row-hidden, plain_node-Join, plain_node-Repeat)
