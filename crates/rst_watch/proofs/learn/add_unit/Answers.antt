use Rattle.std.proofs.Common.{◌≡◌, ◌∙◌, ◌∷◌, ◌++◌, [], ap, subst, sym, List, ℤ}
use Rattle.std.specs.List.{Contains}
use Rattle.std.proofs.lemmas.List.Elements.{Contains-push}
use Rattle.rst_clause.specs.Trails.{Trail', Grows, pushed}
use Rattle.rst_watch.proofs.States.{watching_pushed, unit_grows}
use Rattle.rst_watch.proofs.learn.add_unit.Goals as goal

pub add_true-requires-clause-watching : goal.add_true-requires-clause-watching
add_true-requires-clause-watching c =
    watching_pushed c.args.s.now c.push.new.self c.args.lit c.requires.watching (ap (λ (t : Trail'). t.vars) c.in_ok-push.ensures.ok) (ap (λ (t : Trail'). t.lits) c.in_ok-push.ensures.ok)

pub add_true-requires-clause-is_true : goal.add_true-requires-clause-is_true
add_true-requires-clause-is_true c = (
  c.args.lit,
  c.requires.unit.has,
  subst (λ (u : Trail'). Contains u.lits c.args.lit) (sym c.in_ok-push.ensures.ok) (Contains-push c.args.s.now.trail.lits c.args.lit),
)

pub returns-clause-grows : goal.returns-clause-grows
returns-clause-grows c =
    let trail : c.add_true.new.s.trail ≡ pushed c.args.s.now.trail c.args.lit c.len-number.result = c.add_true.ensures.trail ∙ c.in_ok-push.ensures.ok in
    subst (λ (z : List (List ℤ)). Grows z c.args.s.now.trail c.add_true.new.s.trail) (sym c.in_ok-add_true.ensures.store)
    (subst (λ (u : Trail'). Grows (c.args.s.now.store ++ c.args.clause.now ∷ []) c.args.s.now.trail u) (sym trail)
    (unit_grows c.args.s.now.store c.args.clause.now c.args.s.now.trail c.args.lit c.len-number.result c.len-number.ensures c.push.ensures.slot c.requires.unit))
