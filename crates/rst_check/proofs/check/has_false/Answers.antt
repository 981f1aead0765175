use Rattle.std.proofs.Common.{◌∙◌, refl, subst, get_or, List, ℤ}
use Rattle.rst_clause.specs.Queue.{IsFalseAt}
use Rattle.rst_clause.specs.Trails.Grows.{same}
use Rattle.rst_check.proofs.LineSteps.{grown_more}
use Rattle.rst_check.proofs.check.has_false.Goals as goal

pub loop-i-init : goal.loop-i-init
loop-i-init c = record { clauses = refl; floors = refl; vars = refl; grows = same }

pub loop-i-preserved : goal.loop-i-preserved
loop-i-preserved c =
    grown_more c.args.p.now c.loop-i.p c.apply.new.self c.loop-i.invariant c.apply.ensures.grows c.apply.ensures.vars c.apply.ensures.clauses c.apply.ensures.floors

pub returns-in_err-apply-clause-grown : goal.returns-in_err-apply-clause-grown
returns-in_err-apply-clause-grown c =
    grown_more c.args.p.now c.loop-i.p c.apply.new.self c.loop-i.invariant c.apply.ensures.grows c.apply.ensures.vars c.apply.ensures.clauses c.apply.ensures.floors

pub returns-then-branch-clause-grown : goal.returns-then-branch-clause-grown
returns-then-branch-clause-grown c =
    grown_more c.args.p.now c.loop-i.p c.apply.new.self c.loop-i.invariant c.apply.ensures.grows c.apply.ensures.vars c.apply.ensures.clauses c.apply.ensures.floors

pub returns-then-branch-clause-is_false : goal.returns-then-branch-clause-is_false
returns-then-branch-clause-is_false c = λ e. (
  get_or c.args.hints.now c.loop-i.i 0,
  subst (λ (z : List (List ℤ)). IsFalseAt z c.apply.new.self.trail.lits (get_or c.args.hints.now c.loop-i.i 0)) (c.apply.ensures.clauses ∙ c.loop-i.invariant.clauses) (c.in_ok-apply.ensures.is_false c.if-branch.true),
)
