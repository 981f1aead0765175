use Rattle.std.proofs.Common.{◌≡◌, ◌<◌, [], subst, sym, ap, arith, length, get_or, false, List, ℕ, ℤ, unsigned_abs}
use Rattle.rst_clause.specs.Trails.{Trail', Grows, IsUnit, IsConsistent, pushed}
use Rattle.rst_clause.specs.Trails.Grows.{same}
use Rattle.rst_clause.specs.Queue.{LooksAt}
use Rattle.rst_clause.proofs.Queueing.{look_unit}
use Rattle.rst_watch.proofs.States.{watching_pushed}
use Rattle.rst_watch.proofs.apply.apply.Goals as goal

pub returns-then-number-len-clause-grows : goal.returns-then-number-len-clause-grows
returns-then-number-len-clause-grows c = same

pub returns-in-False-clause-grows : goal.returns-in-False-clause-grows
returns-in-False-clause-grows c = same

pub returns-in-Quiet-clause-grows : goal.returns-in-Quiet-clause-grows
returns-in-Quiet-clause-grows c = same

pub returns-in_err-push-in-Unit-clause-grows : goal.returns-in_err-push-in-Unit-clause-grows
returns-in_err-push-in-Unit-clause-grows c = subst (λ (u : Trail'). Grows c.args.s.now.store c.args.s.now.trail u) (sym c.in_err-push-in-Unit.ensures.err) same

pub returns-in_ok-push-in-Unit-clause-watching : goal.returns-in_ok-push-in-Unit-clause-watching
returns-in_ok-push-in-Unit-clause-watching c =
    let is : c.push.new.self ≡ pushed c.args.s.now.trail c.in-Unit.lit c.args.number = c.in_ok-push-in-Unit.ensures.ok in
    watching_pushed c.args.s.now c.push.new.self c.in-Unit.lit c.requires.watching (ap (λ (t : Trail'). t.vars) is) (ap (λ (t : Trail'). t.lits) is)

-- the clause was looked at, and implies the literal
looked : (s t : Trail') (cs : List (List ℤ)) (clause : List ℤ) (number : ℕ) (l : ℤ) → number < length cs → unsigned_abs l < length s.reasons
    → t ≡ pushed s l number → clause ≡ get_or cs number [] → IsUnit s.lits clause l → IsConsistent t.lits → LooksAt cs number s t false
looked s t cs clause number l lt slot is at unit con =
    subst (λ (z : Trail'). LooksAt cs number s z false) (sym is)
    (look_unit cs number s l lt slot (subst (λ z. IsUnit s.lits z l) at unit) (subst (λ (z : Trail'). IsConsistent z.lits) is con))

pub returns-in_ok-push-in-Unit-clause-grows : goal.returns-in_ok-push-in-Unit-clause-grows
returns-in_ok-push-in-Unit-clause-grows c =
    (looked c.args.s.now.trail c.push.new.self c.args.s.now.store c.get.result.now c.args.number c.in-Unit.lit (omega (arith, c.if-number-len.false, c.len.ensures)) c.push.ensures.slot
    c.in_ok-push-in-Unit.ensures.ok c.get.ensures c.in-Unit.ensures c.in_ok-push-in-Unit.ensures.consistent).grows

pub returns-in_ok-push-in-Unit-clause-quiet : goal.returns-in_ok-push-in-Unit-clause-quiet
returns-in_ok-push-in-Unit-clause-quiet c = λ e lt.
    (looked c.args.s.now.trail c.push.new.self c.args.s.now.store c.get.result.now c.args.number c.in-Unit.lit lt c.push.ensures.slot
    c.in_ok-push-in-Unit.ensures.ok c.get.ensures c.in-Unit.ensures c.in_ok-push-in-Unit.ensures.consistent).quiet e
