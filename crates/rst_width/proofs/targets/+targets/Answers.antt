use Rattle.std.proofs.Common.{◌≡◌, sym, ap, ◌∙◌, arith, false, Ok, Err}
use Rattle.std.specs.Prelude.{IfOk, List, Result}
use Rattle.rst_tree.specs.declared.expr.Target.{Target}
use Rattle.rst_tree.specs.Trees.{Tree}
use Rattle.rst_tree.specs.Trees as tree
use Rattle.rst_tree.specs.Targets.{Places, plain_target, plain_targets}
use Rattle.rst_tree.proofs.Rows.{plain_target-Join}
use Rattle.rst_width.specs.declared.sized.SizedExpr.{SizedExpr}
use Rattle.rst_width.specs.declared.typed_expr.TypedExpr.{TypedExpr}
use Rattle.rst_width.specs.Scopes.{Names, AreMeanings, names_with}
use Rattle.rst_width.specs.Sizing.{Parts, sized, sized_parts}
use Rattle.rst_width.specs.Plain.{plain_sized, plain_parts}
use Rattle.rst_width.specs.Cut.{cut, cut_parts, IsFitSized}
use Rattle.rst_width.specs.Targets.{target_expr, target_exprs}
use Rattle.rst_width.specs.Typed.{plain_all as typed_all}
use Rattle.rst_width.proofs.NameTables.{names_with-meant}
use Rattle.rst_width.proofs.SizingCuts.{sized-Join, followed_by, followed_by-none, sized_is_fit}
use Rattle.rst_width.proofs.TargetSizing.{next_place, all_places}
use Rattle.rst_width.proofs.targets.+targets.Goals as goal

all_fit : {E : Type 0} (r : Result SizedExpr E) (names : Names) → AreMeanings names → (e : Tree) → IfOk r (λ s. plain_sized s ≡ cut (sized false names e)) → IfOk r (λ s. IsFitSized (plain_sized s))
all_fit (Ok s) names right e h = sized_is_fit false names right e (plain_sized s) h
all_fit (Err f) names right e h = tt

pub sized_target-returns-clause-fit : goal.sized_target-returns-clause-fit
sized_target-returns-clause-fit t c =
    all_fit c.sized_place.result (names_with c.args.scope.now c.args.unshaped.now) (names_with-meant c.args.scope.now c.args.unshaped.now) (target_expr (plain_target c.args.target.now)) c.sized_place.ensures

pub sized_place-returns-in_ok-sized_places-in-Join : goal.sized_place-returns-in_ok-sized_places-in-Join
sized_place-returns-in_ok-sized_places-in-Join t c =
    let items : plain_targets c.in-Join.parts.items ≡ plain_targets c.deref.result.now = ap plain_targets (sym c.deref.ensures.value) in
    sized-Join false (names_with c.args.scope.now c.args.unshaped.now) (target_expr (plain_target c.args.target.now)) (target_exprs (plain_targets c.deref.result.now)) (plain_parts c.in_ok-sized_places-in-Join.field-0) (plain_sized c.join_sized.result)
    (ap (λ (x : Target). target_expr (plain_target x)) c.in-Join.is ∙ ap target_expr (plain_target-Join c.in-Join.parts) ∙ ap (λ (ps : Places). tree.Join (target_exprs ps)) items)
    c.in_ok-sized_places-in-Join.ensures c.join_sized.ensures

pub sized_places-loop-target-init : goal.sized_places-loop-target-init
sized_places-loop-target-init t c = record {
  parts = ap (λ (es : List TypedExpr). followed_by (record { width = 0; list = Ok (typed_all es) }) (sized_parts false (names_with c.args.scope.now c.args.unshaped.now) (target_exprs (plain_targets c.args.targets.now)))) c.new.ensures.items
      ∙ followed_by-none (sized_parts false (names_with c.args.scope.now c.args.unshaped.now) (target_exprs (plain_targets c.args.targets.now)));
  cut_width = omega arith;
}

pub sized_places-loop-target-preserved : goal.sized_places-loop-target-preserved
sized_places-loop-target-preserved t c = record {
  parts = next_place (names_with c.args.scope.now c.args.unshaped.now) c.args.targets.now c.loop-target.target-index c.target-item.result (plain_parts c.loop-target.parts) (plain_parts c.in_ok-parts.parts) (plain_sized c.in_ok-next.next)
      c.loop-target-test.true c.target-item.is c.in_ok-parts.ensures c.in_ok-next.ensures.exact ∙ c.loop-target.invariant.parts;
  cut_width = omega (arith, ap (λ (p : Parts). p.width) c.in_ok-parts.ensures);
}

pub sized_places-returns : goal.sized_places-returns
sized_places-returns t c =
    all_places (names_with c.args.scope.now c.args.unshaped.now) c.args.targets.now c.loop-target.target-index (plain_parts c.loop-target.parts) (cut_parts (sized_parts false (names_with c.args.scope.now c.args.unshaped.now) (target_exprs (plain_targets c.args.targets.now))))
    (omega arith) c.loop-target.invariant.cut_width c.loop-target.invariant.parts
