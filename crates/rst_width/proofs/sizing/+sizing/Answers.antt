use Rattle.std.proofs.Common.{◌≡◌, sym, ap, ◌∙◌, arith, Ok, Err}
use Rattle.std.specs.Prelude.{IfOk, Bool, List, Result}
use Rattle.rst_tree.specs.declared.expr.Expr.{Expr}
use Rattle.rst_tree.specs.Trees.{Tree, plain, plain_all, Join, Repeat, Signed, Unsigned}
use Rattle.rst_tree.proofs.Rows.{plain-Join, plain-Repeat}
use Rattle.rst_width.specs.Scopes.{Names, AreMeanings, names_with}
use Rattle.rst_width.proofs.NameTables.{names_with-meant}
use Rattle.rst_width.specs.Sizing.{Parts, sized, sized_parts}
use Rattle.rst_width.specs.Plain.{plain_sized, plain_parts, plain_answer}
use Rattle.rst_width.specs.Cut.{cut, cut_parts, IsFitSized}
use Rattle.rst_width.proofs.SizingCuts.{sized-Join, sized-Repeat, sized-Signed, sized-Unsigned, next_part, all_parts, parts_have_width, followed_by, followed_by-none, sized_is_fit}
use Rattle.rst_width.specs.Typed.{plain_all as typed_all}
use Rattle.rst_width.specs.declared.typed_expr.TypedExpr.{TypedExpr}
use Rattle.rst_width.specs.declared.sized.SizedExpr.{SizedExpr}
use Rattle.rst_width.proofs.sizing.+sizing.Goals as goal

all_fit : {E : Type 0} (r : Result SizedExpr E) (constant : Bool) (names : Names) → AreMeanings names → (e : Tree) → IfOk r (λ s. plain_sized s ≡ cut (sized constant names e)) → IfOk r (λ s. IsFitSized (plain_sized s))
all_fit (Ok s) constant names right e h = sized_is_fit constant names right e (plain_sized s) h
all_fit (Err f) constant names right e h = tt

pub sized-returns-clause-fit : goal.sized-returns-clause-fit
sized-returns-clause-fit t c = all_fit c.sized_node.result c.args.constant (names_with c.args.scope.now c.args.unshaped.now) (names_with-meant c.args.scope.now c.args.unshaped.now) (plain c.args.expr.now) c.sized_node.ensures

pub sized_node-returns-in_ok-sized_parts-in-Join : goal.sized_node-returns-in_ok-sized_parts-in-Join
sized_node-returns-in_ok-sized_parts-in-Join t c =
    let items : plain_all c.in-Join.parts.items ≡ plain_all c.deref-in-Join.result.now = ap plain_all (sym c.deref-in-Join.ensures.value) in
    sized-Join c.args.constant (names_with c.args.scope.now c.args.unshaped.now) (plain c.args.expr.now) (plain_all c.deref-in-Join.result.now) (plain_parts c.in_ok-sized_parts-in-Join.field-0) (plain_sized c.join_sized.result)
    (ap plain c.in-Join.is ∙ plain-Join c.in-Join.parts ∙ ap Join items) c.in_ok-sized_parts-in-Join.ensures.exact c.join_sized.ensures

pub sized_node-returns-in-Ok-sized_parts : goal.sized_node-returns-in-Ok-sized_parts
sized_node-returns-in-Ok-sized_parts t c =
    let items : plain_all c.in-Repeat.parts.items ≡ plain_all c.deref-in-Repeat-2.result.now = ap plain_all (sym c.deref-in-Repeat-2.ensures.value) in
    let count : plain c.in-Repeat.count.value ≡ plain c.deref-in-Repeat.result.now = ap plain (sym c.deref-in-Repeat.ensures) in
    sized-Repeat c.args.constant (names_with c.args.scope.now c.args.unshaped.now) (plain c.args.expr.now) (plain c.deref-in-Repeat.result.now) (plain_all c.deref-in-Repeat-2.result.now) (plain_answer c.in_ok-count-in-Repeat.count) (plain_parts c.in-Ok-sized_parts.parts) (plain_sized c.repeat_sized.result)
    (ap plain c.in-Repeat.is ∙ plain-Repeat c.in-Repeat.count c.in-Repeat.parts ∙ ap (Repeat (plain c.in-Repeat.count.value)) items ∙ ap (λ x. Repeat x (plain_all c.deref-in-Repeat-2.result.now)) count)
    c.in_ok-count-in-Repeat.ensures.exact c.in-Ok-sized_parts.ensures.exact c.repeat_sized.ensures

pub sized_node-returns-in_ok-cast_sized-in-Signed : goal.sized_node-returns-in_ok-cast_sized-in-Signed
sized_node-returns-in_ok-cast_sized-in-Signed t c =
    sized-Signed c.args.constant (names_with c.args.scope.now c.args.unshaped.now) (plain c.args.expr.now) (plain c.deref-in-Signed.result.now) (plain_sized c.in_ok-inner-in-Signed.inner) (plain_sized c.in_ok-cast_sized-in-Signed.field-0)
    (ap plain c.in-Signed.is ∙ ap (λ (x : Expr). Signed (plain x)) (sym c.deref-in-Signed.ensures)) c.in_ok-inner-in-Signed.ensures.exact c.in_ok-cast_sized-in-Signed.ensures

pub sized_node-returns-in_ok-cast_sized-in-Unsigned : goal.sized_node-returns-in_ok-cast_sized-in-Unsigned
sized_node-returns-in_ok-cast_sized-in-Unsigned t c =
    sized-Unsigned c.args.constant (names_with c.args.scope.now c.args.unshaped.now) (plain c.args.expr.now) (plain c.deref-in-Unsigned.result.now) (plain_sized c.in_ok-inner-in-Unsigned.inner) (plain_sized c.in_ok-cast_sized-in-Unsigned.field-0)
    (ap plain c.in-Unsigned.is ∙ ap (λ (x : Expr). Unsigned (plain x)) (sym c.deref-in-Unsigned.ensures)) c.in_ok-inner-in-Unsigned.ensures.exact c.in_ok-cast_sized-in-Unsigned.ensures

pub sized_parts-loop-expr-init : goal.sized_parts-loop-expr-init
sized_parts-loop-expr-init t c = record {
  parts = ap (λ (es : List TypedExpr). followed_by (record { width = 0; list = Ok (typed_all es) }) (sized_parts c.args.constant (names_with c.args.scope.now c.args.unshaped.now) (plain_all c.args.exprs.now))) c.new.ensures.items ∙ followed_by-none (sized_parts c.args.constant (names_with c.args.scope.now c.args.unshaped.now) (plain_all c.args.exprs.now));
  cut_width = omega arith;
}

pub sized_parts-loop-expr-preserved : goal.sized_parts-loop-expr-preserved
sized_parts-loop-expr-preserved t c = record {
  parts = next_part c.args.constant (names_with c.args.scope.now c.args.unshaped.now) c.args.exprs.now c.loop-expr.expr-index c.expr-item.result (plain_parts c.loop-expr.parts) (plain_parts c.in_ok-parts.parts) (plain_sized c.in_ok-next.next)
      c.loop-expr-test.true c.expr-item.is c.in_ok-parts.ensures c.in_ok-next.ensures.exact ∙ c.loop-expr.invariant.parts;
  cut_width = omega (arith, ap (λ (p : Parts). p.width) c.in_ok-parts.ensures);
}

pub sized_parts-returns-clause-exact : goal.sized_parts-returns-clause-exact
sized_parts-returns-clause-exact t c =
    all_parts c.args.constant (names_with c.args.scope.now c.args.unshaped.now) c.args.exprs.now c.loop-expr.expr-index (plain_parts c.loop-expr.parts) (cut_parts (sized_parts c.args.constant (names_with c.args.scope.now c.args.unshaped.now) (plain_all c.args.exprs.now)))
    (omega arith) c.loop-expr.invariant.cut_width c.loop-expr.invariant.parts

pub sized_parts-returns-clause-has_width : goal.sized_parts-returns-clause-has_width
sized_parts-returns-clause-has_width t c =
    let exact = all_parts c.args.constant (names_with c.args.scope.now c.args.unshaped.now) c.args.exprs.now c.loop-expr.expr-index (plain_parts c.loop-expr.parts) (cut_parts (sized_parts c.args.constant (names_with c.args.scope.now c.args.unshaped.now) (plain_all c.args.exprs.now)))
    (omega arith) c.loop-expr.invariant.cut_width c.loop-expr.invariant.parts in
    parts_have_width c.args.constant (names_with c.args.scope.now c.args.unshaped.now) (names_with-meant c.args.scope.now c.args.unshaped.now) (plain_all c.args.exprs.now) (plain_parts c.loop-expr.parts) exact
