use Rattle.std.proofs.Common.{◌≡◌, ◌∙◌, ◌++◌, ◌≤◌, ap, subst, sym}
use Rattle.rst_clause.specs.Literals.{AreLiterals}
use Rattle.rst_clause.proofs.Ranges.{AreLiterals-more}
use Rattle.rst_pose.proofs.Askings.{escape_asks}
use Rattle.rst_pose.proofs.posing.ask_escape.Goals as goal

pub ask_leaving-requires-clause-both : goal.ask_leaving-requires-clause-both
ask_leaving-requires-clause-both c =
    let m = c.both_sides.new.dom.clauses.vars in
    let n = c.ask_stuck.new.dom.clauses.vars in
    let held = c.in_ok-cycle.ensures.held in
    let le : m ≤ n = c.in_ok-ask_stuck.ensures.least in
    let left = c.as_slice.ensures.value ∙ ap (λ x. x.left.nexts) c.cycle.view_is in
    let right = c.as_slice-2.ensures.value ∙ ap (λ x. x.right.nexts) c.cycle.view_is in
    subst (AreLiterals n) (sym c.as_slice-4.ensures.value)
    (c.in_ok-next.ensures.held n
    (subst (AreLiterals n) (sym left) (AreLiterals-more m n c.in_ok-cycle.cycle.left.nexts le held.left_nexts))
    (subst (AreLiterals n) (sym right) (AreLiterals-more m n c.in_ok-cycle.cycle.right.nexts le held.right_nexts)))

pub returns : goal.returns
returns c =
    let left = c.as_slice.ensures.value ∙ ap (λ x. x.left.nexts) c.cycle.view_is in
    let right = c.as_slice-2.ensures.value ∙ ap (λ x. x.right.nexts) c.cycle.view_is in
    let next : c.as_slice-4.result.now ≡ c.in_ok-cycle.cycle.left.nexts ++ c.in_ok-cycle.cycle.right.nexts =
    rw (← left, ← right) (c.as_slice-4.ensures.value ∙ c.in_ok-next.ensures.value) in
    escape_asks c.args.pair.now c.args.front.now c.args.inputs.now c.args.left.now c.args.right.now c.as_slice-3.result.now c.as_slice-4.result.now
    c.args.dom.now c.both_sides.new.dom c.ask_stuck.new.dom c.ask_leaving.new.dom c.in_ok-cycle.cycle c.in_ok-cycle.ensures.gives c.in_ok-cycle.ensures.grows
    (c.as_slice-3.ensures.value ∙ c.in_ok-now.ensures.value) next c.in_ok-ask_stuck.ensures c.in_ok-ask_leaving.ensures
