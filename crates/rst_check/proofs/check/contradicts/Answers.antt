use Rattle.std.proofs.Common.{arith, ◌≡◌, ◌<◌, length, subst, ap, ◌∙◌, take, refl, ℕ, ℤ, List, Option, Some, None, IfNone, true, false}
use Rattle.std.specs.List.{Contains}
use Rattle.std.proofs.Math.Seq.{take-length}
use Rattle.rst_clause.specs.Trails.{IsConsistent}
use Rattle.rst_clause.specs.Queue.{Propagates}
use Rattle.rst_check.proofs.LineSteps.{Assumed, assumed_start, assumed_there, assumed_pushed, assuming_longer, grown_longer, stands_follows, hinted_follows, assuming_grown, found_follows, none_follows, line_has}
use Rattle.rst_check.proofs.check.contradicts.Goals as goal
use Rattle.rst_check.proofs.check.contradicts.Goals.{then-not-has+in_ok-assume, else-not-has}

pub loop-i-init : goal.loop-i-init
loop-i-init c = record { clauses = refl; floors = refl; assumed = assumed_start c.args.p.now.clauses c.args.p.now.trail c.args.line.now c.requires.implied }

pub loop-i-preserved : goal.loop-i-preserved
loop-i-preserved c =
    let lt : c.loop-i.i < length c.args.line.now = omega arith in
    elim c.if-not-has.branch [
      | then-not-has+in_ok-assume w ↦ rw w.p-is (record {
        clauses = w.in_ok-assume.ensures.clauses ∙ c.loop-i.invariant.clauses;
        floors = w.in_ok-assume.ensures.floors ∙ c.loop-i.invariant.floors;
        assumed = rw (w.in_ok-assume.ensures.trail, c.opposite-no.ensures)
            (assumed_pushed c.args.p.now.clauses c.args.p.now.trail c.args.line.now c.loop-i.i c.index-line-i.result c.loop-i.p.trail lt c.index-line-i.is 0 c.loop-i.invariant.assumed);
      })
      | else-not-has w ↦ rw w.p-is (record {
        clauses = c.loop-i.invariant.clauses;
        floors = c.loop-i.invariant.floors;
        assumed = assumed_there c.args.p.now.clauses c.args.p.now.trail c.args.line.now c.loop-i.i c.index-line-i.result c.loop-i.p.trail lt c.index-line-i.is c.loop-i.invariant.assumed
            (subst (λ z. Contains c.loop-i.p.trail.lits z) c.opposite-no.ensures (c.has-in-loop-i.ensures.value.0 w.if-not-has.false));
      })
    ]

pub returns-then-has-clause-answer : goal.returns-then-has-clause-answer
returns-then-has-clause-answer c =
    let lt : c.loop-i.i < length c.args.line.now = omega arith in (
      (λ e. stands_follows c.args.p.now.clauses c.args.p.now.trail (take c.loop-i.i c.args.line.now) c.args.line.now c.loop-i.p.trail c.index-line-i.result c.loop-i.invariant.assumed
          (line_has c.args.p.now.clauses c.args.p.now.trail c.args.line.now c.loop-i.i c.index-line-i.result c.loop-i.p.trail lt c.index-line-i.is) (c.has.ensures.value.0 c.if-has.true)),
      (λ h. refl),
    )

pub returns-then-has-clause-longer : goal.returns-then-has-clause-longer
returns-then-has-clause-longer c = assuming_longer c.args.p.now (take c.loop-i.i c.args.line.now) c.args.line.now c.loop-i.p c.loop-i.invariant

pub returns-then-branch-clause-answer : goal.returns-then-branch-clause-answer
returns-then-branch-clause-answer c = (
  (λ e. hinted_follows c.args.p.now (take c.loop-i.i c.args.line.now) c.args.line.now c.loop-i.p c.has_false.new.p c.loop-i.invariant c.has_false.ensures.grown
      (c.in_ok-has_false.ensures.is_false c.if-branch.true)),
  (λ h. refl),
)

pub returns-then-branch-clause-longer : goal.returns-then-branch-clause-longer
returns-then-branch-clause-longer c =
    let line = take c.loop-i.i c.args.line.now in
    assuming_longer c.args.p.now line c.args.line.now c.has_false.new.p
    (assuming_grown c.args.p.now line c.args.line.now c.loop-i.p c.has_false.new.p c.loop-i.invariant c.has_false.ensures.grown)

pub returns-in-Some-clause-answer : goal.returns-in-Some-clause-answer
returns-in-Some-clause-answer c =
    let hinted = assuming_grown c.args.p.now (take c.loop-i.i c.args.line.now) c.args.line.now c.loop-i.p c.has_false.new.p c.loop-i.invariant c.has_false.ensures.grown in
    let p : Propagates c.args.p.now.clauses c.has_false.new.p.trail c.propagate.new.self.trail (Some c.in-Some.field-0) =
    subst (λ (z : List (List ℤ)). Propagates z c.has_false.new.p.trail c.propagate.new.self.trail (Some c.in-Some.field-0)) hinted.clauses
    (subst (λ (o : Option ℕ). Propagates c.has_false.new.p.clauses c.has_false.new.p.trail c.propagate.new.self.trail o) c.in-Some.is c.in_ok-found.ensures.propagates) in (
      (λ e. found_follows c.args.p.now.clauses c.args.p.now.trail (take c.loop-i.i c.args.line.now) c.args.line.now c.has_false.new.p.trail c.propagate.new.self.trail c.in-Some.field-0
          hinted.assumed p.grows p.outcome.0 p.outcome.1),
      (λ h. refl),
    )

pub returns-in-Some-clause-longer : goal.returns-in-Some-clause-longer
returns-in-Some-clause-longer c =
    let hinted = assuming_grown c.args.p.now (take c.loop-i.i c.args.line.now) c.args.line.now c.loop-i.p c.has_false.new.p c.loop-i.invariant c.has_false.ensures.grown in
    let p : Propagates c.args.p.now.clauses c.has_false.new.p.trail c.propagate.new.self.trail c.in_ok-found.found =
    subst (λ (z : List (List ℤ)). Propagates z c.has_false.new.p.trail c.propagate.new.self.trail c.in_ok-found.found) hinted.clauses c.in_ok-found.ensures.propagates in
    grown_longer c.args.p.now (take c.loop-i.i c.args.line.now) c.args.line.now c.has_false.new.p c.propagate.new.self hinted p.grows p.vars c.propagate.ensures.clauses c.propagate.ensures.floors

pub returns-in-None-clause-answer : goal.returns-in-None-clause-answer
returns-in-None-clause-answer c =
    let hinted = assuming_grown c.args.p.now (take c.loop-i.i c.args.line.now) c.args.line.now c.loop-i.p c.has_false.new.p c.loop-i.invariant c.has_false.ensures.grown in
    let at_end : c.loop-i.i ≡ length c.args.line.now = omega arith in
    let all : Assumed c.args.p.now.clauses c.args.p.now.trail c.args.line.now c.args.line.now c.has_false.new.p.trail =
    subst (λ z. Assumed c.args.p.now.clauses c.args.p.now.trail z c.args.line.now c.has_false.new.p.trail) (ap (λ n. take n c.args.line.now) at_end ∙ take-length c.args.line.now)
    hinted.assumed in
    let p : Propagates c.args.p.now.clauses c.has_false.new.p.trail c.propagate.new.self.trail None =
    subst (λ (z : List (List ℤ)). Propagates z c.has_false.new.p.trail c.propagate.new.self.trail None) hinted.clauses
    (subst (λ (o : Option ℕ). Propagates c.has_false.new.p.clauses c.has_false.new.p.trail c.propagate.new.self.trail o) c.in-None.is c.in_ok-found.ensures.propagates) in (
      (λ e. absurd (let f : false ≡ true = e in cc)),
      (λ h. absurd (none_follows c.args.p.now.clauses c.args.p.now.trail c.args.line.now c.has_false.new.p.trail c.propagate.new.self.trail all p.grows (subst (λ (o : Option ℕ). IfNone o (IsConsistent c.propagate.new.self.trail.lits)) c.in-None.is c.in_ok-found.ensures.consistent) p.outcome h)),
    )

pub returns-in-None-clause-longer : goal.returns-in-None-clause-longer
returns-in-None-clause-longer c =
    let hinted = assuming_grown c.args.p.now (take c.loop-i.i c.args.line.now) c.args.line.now c.loop-i.p c.has_false.new.p c.loop-i.invariant c.has_false.ensures.grown in
    let p : Propagates c.args.p.now.clauses c.has_false.new.p.trail c.propagate.new.self.trail c.in_ok-found.found =
    subst (λ (z : List (List ℤ)). Propagates z c.has_false.new.p.trail c.propagate.new.self.trail c.in_ok-found.found) hinted.clauses c.in_ok-found.ensures.propagates in
    grown_longer c.args.p.now (take c.loop-i.i c.args.line.now) c.args.line.now c.has_false.new.p c.propagate.new.self hinted p.grows p.vars c.propagate.ensures.clauses c.propagate.ensures.floors
