-- Literal by literal: all so far are false, or all but one that is open.
use Rattle.std.proofs.Common.{rules, arith, ◌≡◌, ◌<◌, length, ◌∙◌, subst, ap, Some, None, take, Option, ℤ}
use Rattle.std.proofs.Math.Seq.{take-length}
use Rattle.std.specs.List.{Contains}
use Rattle.rst_clause.specs.Literals.{opposite}
use Rattle.rst_clause.specs.Trails.{AllFalse, IsUnit}
use Rattle.rst_clause.proofs.Members.{Contains-take, absent}
use Rattle.rst_clause.proofs.Scan.{SoFar, so_far_false, so_far_open, so_far_again, quiet_true, quiet_two}
use Rattle.rst_clause.proofs.status.status_of.Goals as goal
use Rattle.rst_clause.proofs.status.status_of.Goals.{then-not-has+in-None, then-not-has+in-Some+else-not-is, else-not-has}

pub returns-then-has : goal.returns-then-has
returns-then-has c =
    let lt : c.loop-i.i < length c.args.clause.now = omega arith in
    let has : Contains c.args.trail.now.lits c.index-clause-i.result = search rules in
    quiet_true c.args.trail.now.lits c.args.clause.now c.loop-i.i c.index-clause-i.result lt c.index-clause-i.is c.has.ensures.consistent has

pub returns-then-not-is : goal.returns-then-not-is
returns-then-not-is c =
    let lt : c.loop-i.i < length c.args.clause.now = omega arith in
    let so_far : IsUnit c.args.trail.now.lits (take c.loop-i.i c.args.clause.now) c.in-Some.other = subst (λ (o : Option ℤ). SoFar c.args.trail.now.lits (take c.loop-i.i c.args.clause.now) o) c.in-Some.is c.loop-i.invariant in
    let no2 : Contains c.args.trail.now.lits (opposite c.index-clause-i.result) → ⊥ = rw (← c.opposite.ensures) (absent _ _ c.has-in-loop-i.ensures.value c.if-not-has.true) in
    quiet_two c.args.trail.now.lits c.args.clause.now c.loop-i.i c.index-clause-i.result lt c.index-clause-i.is c.in-Some.other
    (absent _ _ c.is.ensures c.if-not-is.true) (Contains-take _ _ _ so_far.has) so_far.not_opposite no2

pub loop-i-preserved : goal.loop-i-preserved
loop-i-preserved c =
    let lt : c.loop-i.i < length c.args.clause.now = omega arith in
    elim c.if-not-has.branch [
      | then-not-has+in-None w ↦
          let so_far : SoFar c.args.trail.now.lits (take c.loop-i.i c.args.clause.now) None = subst (λ (o : Option ℤ). SoFar c.args.trail.now.lits (take c.loop-i.i c.args.clause.now) o) w.in-None.is c.loop-i.invariant in
          let no2 : Contains c.args.trail.now.lits (opposite c.index-clause-i.result) → ⊥ = rw (← c.opposite.ensures) (absent _ _ c.has-in-loop-i.ensures.value w.if-not-has.true) in
          rw w.open-is (so_far_open c.args.trail.now.lits c.args.clause.now c.loop-i.i c.index-clause-i.result lt c.index-clause-i.is
          (absent _ _ c.has.ensures.value c.if-has.false) no2 so_far)
      | then-not-has+in-Some+else-not-is w ↦
          let so_far : SoFar c.args.trail.now.lits (take c.loop-i.i c.args.clause.now) (Some w.in-Some.other) = subst (λ (o : Option ℤ). SoFar c.args.trail.now.lits (take c.loop-i.i c.args.clause.now) o) w.in-Some.is c.loop-i.invariant in
          rw w.open-is (so_far_again c.args.trail.now.lits c.args.clause.now c.loop-i.i c.index-clause-i.result lt c.index-clause-i.is
          w.in-Some.other (w.is.ensures.0 w.if-not-is.false) so_far)
      | else-not-has w ↦
          let false : Contains c.args.trail.now.lits (opposite c.index-clause-i.result) = rw (← c.opposite.ensures) (c.has-in-loop-i.ensures.value.0 w.if-not-has.false) in
          rw w.open-is (so_far_false c.args.trail.now.lits c.args.clause.now c.loop-i.i c.index-clause-i.result lt c.index-clause-i.is
          c.loop-i.open false c.loop-i.invariant)
    ]

pub returns-in-None-open : goal.returns-in-None-open
returns-in-None-open c =
    let at_end : c.loop-i.i ≡ length c.args.clause.now = omega arith in
    let so_far : AllFalse c.args.trail.now.lits (take c.loop-i.i c.args.clause.now) = subst (λ (o : Option ℤ). SoFar c.args.trail.now.lits (take c.loop-i.i c.args.clause.now) o) c.in-None-open.is c.loop-i.invariant in
    subst (λ z. AllFalse c.args.trail.now.lits z) (ap (λ n. take n c.args.clause.now) at_end ∙ take-length c.args.clause.now) so_far

pub returns-in-Some-open : goal.returns-in-Some-open
returns-in-Some-open c =
    let at_end : c.loop-i.i ≡ length c.args.clause.now = omega arith in
    let so_far : IsUnit c.args.trail.now.lits (take c.loop-i.i c.args.clause.now) c.in-Some-open.lit = subst (λ (o : Option ℤ). SoFar c.args.trail.now.lits (take c.loop-i.i c.args.clause.now) o) c.in-Some-open.is c.loop-i.invariant in
    subst (λ z. IsUnit c.args.trail.now.lits z c.in-Some-open.lit) (ap (λ n. take n c.args.clause.now) at_end ∙ take-length c.args.clause.now) so_far
