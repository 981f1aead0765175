use Rattle.std.proofs.Common.{◌∙◌, ◌<◌, ap, subst, sym, refl, arith, pos, length, ℕ, Option, MatchOption}
use Rattle.std.specs.List.{Contains}
use Rattle.std.proofs.lemmas.List.{get_or_default}
use Rattle.rst_clause.specs.Literals.{opposite}
use Rattle.rst_clause.specs.Queue.{IsFalseAt}
use Rattle.rst_clause.proofs.Members.{opposite-opposite}
use Rattle.rst_watch.specs.Watching.{HoldWhereWatched}
use Rattle.rst_watch.proofs.Visiting.{propagating_start, propagating_next, propagating_false, propagating_end}
use Rattle.rst_watch.proofs.propagator.propagate_all.Goals as goal

pub propagating-init : goal.propagating-init
propagating-init c = propagating_start c.args.s.now c.requires.watching

pub visit-requires-clause-is_false : goal.visit-requires-clause-is_false
visit-requires-clause-is_false c =
    let lt : c.propagating.s.done < length c.propagating.s.trail.lits = omega (arith, c.propagating-test.true, c.len.ensures.value) in
    subst (λ z. Contains c.propagating.s.trail.lits z) (sym (ap opposite c.opposite-lit.ensures ∙ opposite-opposite c.get.result))
    (c.propagating.s.done, lt, sym c.get.ensures.value)

pub returns-in-Some-clause-propagates : goal.returns-in-Some-clause-propagates
returns-in-Some-clause-propagates c =
    propagating_false c.args.s.now c.propagating.s c.visit.new.s c.in-Some.i c.propagating.invariant c.visit.ensures.same c.visit.ensures.grows
    (subst (λ (o : Option ℕ). MatchOption o (HoldWhereWatched c.visit.new.s c.opposite-lit.result) (IsFalseAt c.visit.new.s.store c.visit.new.s.trail.lits)) c.in-Some.is c.in_ok-found.ensures.found)

pub propagating-preserved : goal.propagating-preserved
propagating-preserved c =
    let lt : c.propagating.s.done < length c.propagating.s.trail.lits = omega (arith, c.propagating-test.true, c.len.ensures.value) in
    propagating_next c.args.s.now c.propagating.s c.visit.new.s c.opposite-lit.result _ c.propagating.invariant c.visit.ensures.same c.visit.ensures.grows lt
    (sym (c.get.ensures.value ∙ get_or_default c.propagating.s.trail.lits c.propagating.s.done c.get.result (pos 0) lt)
    ∙ sym (ap opposite c.opposite-lit.ensures ∙ opposite-opposite c.get.result))
    c.visit.ensures.watching
    (subst (λ (o : Option ℕ). MatchOption o (HoldWhereWatched c.visit.new.s c.opposite-lit.result) (IsFalseAt c.visit.new.s.store c.visit.new.s.trail.lits)) c.in_default.is c.in_ok-found.ensures.found)
    refl

pub returns-clause-propagates : goal.returns-clause-propagates
returns-clause-propagates c =
    propagating_end c.args.s.now c.propagating.s c.propagating.invariant (omega (arith, c.propagating-test.false, c.len.ensures.value, c.propagating.invariant.watching.done)) c.len.ensures.consistent
