use Rattle.std.proofs.Common.{subst, sym, ap, refl, get_or, []}
use Rattle.std.specs.List.{Contains}
use Rattle.std.proofs.lemmas.List.Elements.{Contains-push}
use Rattle.rst_clause.specs.Trails.{Trail', Grows}
use Rattle.rst_clause.specs.Trails.Grows.{same}
use Rattle.rst_clause.proofs.Members.{absent}
use Rattle.rst_watch.specs.Watching.{IsWatching}
use Rattle.rst_watch.proofs.States.{watching_pushed, other_of}
use Rattle.rst_watch.proofs.Visiting.{implied_grows, all_false}
use Rattle.rst_watch.proofs.visit.imply.Goals as goal

pub returns-then-has-clause-grows : goal.returns-then-has-clause-grows
returns-then-has-clause-grows c = same

pub push-requires-clause-not_there : goal.push-requires-clause-not_there
push-requires-clause-not_there c = c.requires.is_false.none c.args.other (other_of c.args.s.now c.args.i c.args.lit c.args.other c.requires.watching c.requires.place c.requires.pair)

pub returns-in_err-push-clause-watching : goal.returns-in_err-push-clause-watching
returns-in_err-push-clause-watching c =
    subst (λ (u : Trail'). IsWatching (record c.args.s.now { trail = u })) (sym c.in_err-push.ensures.err) c.requires.watching

pub returns-in_err-push-clause-same : goal.returns-in_err-push-clause-same
returns-in_err-push-clause-same c = record { store = refl; done = refl; floors = refl; vars = ap (λ (t : Trail'). t.vars) c.in_err-push.ensures.err }

pub returns-in_err-push-clause-grows : goal.returns-in_err-push-clause-grows
returns-in_err-push-clause-grows c = subst (λ (u : Trail'). Grows c.args.s.now.store c.args.s.now.trail u) (sym c.in_err-push.ensures.err) same

pub returns-clause-watching : goal.returns-clause-watching
returns-clause-watching c =
    watching_pushed c.args.s.now c.push.new.self c.args.other c.requires.watching (ap (λ (t : Trail'). t.vars) c.in_ok-push.ensures.ok) (ap (λ (t : Trail'). t.lits) c.in_ok-push.ensures.ok)

pub returns-clause-grows : goal.returns-clause-grows
returns-clause-grows c =
    subst (λ (u : Trail'). Grows c.args.s.now.store c.args.s.now.trail u) (sym c.in_ok-push.ensures.ok)
    (implied_grows c.args.s.now.store c.args.s.now.trail c.args.i c.args.other c.requires.place c.push.ensures.slot
    (other_of c.args.s.now c.args.i c.args.lit c.args.other c.requires.watching c.requires.place c.requires.pair) c.requires.is_false
    (subst (λ z. Contains c.args.s.now.trail.lits z → ⊥) c.opposite.ensures (absent _ _ c.has.ensures.value c.if-has.false)))

pub returns-clause-visits : goal.returns-clause-visits
returns-clause-visits c = (
  refl,
  refl,
  λ lt h. (
    c.args.other,
    other_of c.args.s.now c.args.i c.args.lit c.args.other c.requires.watching c.requires.place c.requires.pair,
    subst (λ (u : Trail'). Contains u.lits c.args.other) (sym c.in_ok-push.ensures.ok) (Contains-push c.args.s.now.trail.lits c.args.other),
  ),
)

pub returns-then-has-clause-visits : goal.returns-then-has-clause-visits
returns-then-has-clause-visits c = (
  c.requires.place,
  all_false c.args.s.now.trail.lits (get_or c.args.s.now.store c.args.i []) c.args.other c.requires.is_false
      (subst (λ z. Contains c.args.s.now.trail.lits z) c.opposite.ensures (c.has.ensures.value.0 c.if-has.true)),
)
