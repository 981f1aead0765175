use Rattle.std.proofs.Common.{◌≡◌, subst, sym, false, List, ℤ}
use Rattle.rst_clause.specs.Trails.{Trail', pushed, IsConsistent, IsQuiet, IsUnit, AllFalse}
use Rattle.rst_clause.specs.Queue.{LooksAt}
use Rattle.rst_clause.proofs.Queueing.{look_false, look_unit, look_quiet}
use Rattle.rst_clause.proofs.propagation.look.Goals as goal

pub returns-in-False : goal.returns-in-False
returns-in-False c =
    look_false c.args.clauses.now c.args.i c.args.trail.now c.requires.place
    (subst (λ (z : List ℤ). AllFalse c.args.trail.now.lits z) c.get.ensures c.in-False.ensures)

pub returns-in_ok-push-in-Unit : goal.returns-in_ok-push-in-Unit
returns-in_ok-push-in-Unit c =
    let is : c.push.new.self ≡ pushed c.args.trail.now c.in-Unit.lit c.args.i = c.in_ok-push-in-Unit.ensures.ok in
    subst (λ (z : Trail'). LooksAt c.args.clauses.now c.args.i c.args.trail.now z false) (sym is)
    (look_unit c.args.clauses.now c.args.i c.args.trail.now c.in-Unit.lit c.requires.place c.push.ensures.slot
    (subst (λ (z : List ℤ). IsUnit c.args.trail.now.lits z c.in-Unit.lit) c.get.ensures c.in-Unit.ensures)
    (subst (λ (z : Trail'). IsConsistent z.lits) is c.in_ok-push-in-Unit.ensures.consistent))

pub returns-in-Quiet : goal.returns-in-Quiet
returns-in-Quiet c =
    look_quiet c.args.clauses.now c.args.i c.args.trail.now
    (subst (λ (z : List ℤ). IsQuiet c.args.trail.now.lits z) c.get.ensures c.in-Quiet.ensures)
