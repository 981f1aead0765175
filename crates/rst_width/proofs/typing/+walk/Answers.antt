use Rattle.std.proofs.Common.{◌≡◌, ◌∙◌, ap, Bool, Result, arith}
use Rattle.rst_width.specs.declared.sized.SizedExpr.{SizedExpr}
use Rattle.rst_width.specs.declared.typed_expr.TypedExpr.{TypedExpr}
use Rattle.rst_width.specs.declared.typed_expr.WidthFault.{WidthFault}
use Rattle.rst_width.specs.Plain.{plain_sized, plain_answer, plain_found}
use Rattle.rst_width.specs.Sized.{Leaf, in_context}
use Rattle.rst_width.proofs.Walks.{answer_fits, for_one}
use Rattle.rst_width.proofs.typing.+walk.Goals as goal

pub binary_in-requires : goal.binary_in-requires
binary_in-requires t c =
    let whole = ap plain_sized c.in-Binary.is in
    let fit = rw whole at c.requires.fit in
    let inside = rw whole at c.requires.inside in
    let is = c.in-Ok.ensures ∙ ap (λ (s : SizedExpr). in_context c.args.tests (plain_sized s) c.args.context) c.into_inner-in-Binary-2.ensures in
    λ on. answer_fits c.args.tests (plain_sized c.in-Binary.b.value) c.args.context c.in-Ok.b on is fit.2 (omega arith)

pub returns-in-Leaf : goal.returns-in-Leaf
returns-in-Leaf t c =
    rw c.in-Leaf.is
    (for_one (λ (answer : Result TypedExpr WidthFault) (tests : Bool). plain_answer answer ≡ in_context tests (Leaf c.in-Leaf.shape (plain_found c.in-Leaf.found)) c.args.context) c.leaf_in.result c.args.tests c.leaf_in.ensures)
