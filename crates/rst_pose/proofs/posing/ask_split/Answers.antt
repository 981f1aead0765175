use Rattle.std.proofs.Common.{◌≡◌, ◌∙◌, ◌+◌, ◌≤◌, length, ap, subst, sym, arith}
use Rattle.rst_clause.specs.Literals.{AreLiterals}
use Rattle.rst_clause.proofs.Ranges.{AreLiterals-more}
use Rattle.rst_pose.proofs.Askings.{cubes_wide}
use Rattle.rst_pose.proofs.posing.ask_split.Goals as goal

pub in_cubes-requires-clause-wide : goal.in_cubes-requires-clause-wide
in_cubes-requires-clause-wide c =
    let is = c.as_slice-blocked.ensures.value ∙ ap (λ f. f.blocked) c.front.view_is in
    let both : length c.as_slice-3.result.now ≡ length c.args.left.now + length c.args.right.now = ap length c.as_slice-3.ensures.value ∙ c.in_ok-now.ensures.count in
    let count : length c.as_slice-3.result.now ≡ c.args.pair.now.left.states + c.args.pair.now.right.states = rw (← c.requires.each_left, ← c.requires.each_right) both in
    rw is (cubes_wide c.args.pair.now c.args.front.now.blocked _ c.requires.within.front.blocked count)

pub in_cubes-requires-clause-values : goal.in_cubes-requires-clause-values
in_cubes-requires-clause-values c =
    let least = c.in_ok-cycle.ensures.grows.least in
    subst (AreLiterals c.both_sides.new.dom.clauses.vars) (sym c.as_slice-3.ensures.value)
    (c.in_ok-now.ensures.held c.both_sides.new.dom.clauses.vars
    (AreLiterals-more c.args.dom.now.clauses.vars c.both_sides.new.dom.clauses.vars c.args.left.now least c.requires.left)
    (AreLiterals-more c.args.dom.now.clauses.vars c.both_sides.new.dom.clauses.vars c.args.right.now least c.requires.right))

pub outs_differ-requires-clause-same : goal.outs_differ-requires-clause-same
outs_differ-requires-clause-same c =
    let left = c.as_slice-4.ensures.value ∙ ap (λ x. x.left.outs) c.cycle.view_is in
    let right = c.as_slice-5.ensures.value ∙ ap (λ x. x.right.outs) c.cycle.view_is in
    rw (left, right) c.in_ok-cycle.ensures.held.same_outs

pub in_cubes-requires-2-clause-wide : goal.in_cubes-requires-2-clause-wide
in_cubes-requires-2-clause-wide c =
    let is = c.as_slice-blocked.ensures.value ∙ ap (λ f. f.blocked) c.front.view_is in
    let left = c.as_slice.ensures.value ∙ ap (λ x. x.left.nexts) c.cycle.view_is in
    let right = c.as_slice-2.ensures.value ∙ ap (λ x. x.right.nexts) c.cycle.view_is in
    let both = ap length c.as_slice-6.ensures.value ∙ c.in_ok-next.ensures.count in
    let held = c.in_ok-cycle.ensures.held in
    let count : length c.as_slice-6.result.now ≡ c.args.pair.now.left.states + c.args.pair.now.right.states =
    rw (← held.each_left_next, ← held.each_right_next, ← left, ← right) both in
    rw is (cubes_wide c.args.pair.now c.args.front.now.blocked _ c.requires.within.front.blocked count)

pub in_cubes-requires-2-clause-values : goal.in_cubes-requires-2-clause-values
in_cubes-requires-2-clause-values c =
    let m = c.both_sides.new.dom.clauses.vars in
    let n = c.outs_differ.new.dom.clauses.vars in
    let held = c.in_ok-cycle.ensures.held in
    let le : m ≤ n = omega (arith, c.in_ok-held.ensures.grows.least, c.in_ok-leaves.ensures.grows.least) in
    let left = c.as_slice.ensures.value ∙ ap (λ x. x.left.nexts) c.cycle.view_is in
    let right = c.as_slice-2.ensures.value ∙ ap (λ x. x.right.nexts) c.cycle.view_is in
    subst (AreLiterals n) (sym c.as_slice-6.ensures.value)
    (c.in_ok-next.ensures.held n
    (subst (AreLiterals n) (sym left) (AreLiterals-more m n c.in_ok-cycle.cycle.left.nexts le held.left_nexts))
    (subst (AreLiterals n) (sym right) (AreLiterals-more m n c.in_ok-cycle.cycle.right.nexts le held.right_nexts)))
