use Rattle.std.proofs.Common.{◌≡◌, ◌∙◌, ap, sym, refl, arith}
use Rattle.std.proofs.lemmas.List.{get_or_default}
use Rattle.rst_clause.specs.Trails.Grows.{same}
use Rattle.rst_watch.specs.declared.state.Watch.{Watch}
use Rattle.rst_watch.specs.Watching.{no_watch, watch_of}
use Rattle.rst_watch.proofs.States.{settled_holds}
use Rattle.rst_watch.proofs.visit.visit_number.Goals as goal

pub returns-then-i-len-clause-grows : goal.returns-then-i-len-clause-grows
returns-then-i-len-clause-grows c = same

pub returns-clause-grows : goal.returns-clause-grows
returns-clause-grows c = same

pub returns-then-is-clause-grows : goal.returns-then-is-clause-grows
returns-then-is-clause-grows c = same

pub returns-then-is-clause-visits : goal.returns-then-is-clause-visits
returns-then-is-clause-visits c = (
  refl,
  refl,
  λ lt h.
      let at : c.index.result.now ≡ watch_of c.args.s.now c.args.i =
      c.index.ensures ∙ get_or_default c.args.s.now.pairs.items c.args.i c.index.result.now no_watch (omega (arith, lt, c.requires.watching.pairs)) in
      settled_holds c.args.s.now c.args.i c.requires.watching lt
      (ap (λ (z : Watch). z.first) (sym at) ∙ c.is.ensures.0 c.if-is.true ∙ ap (λ (z : Watch). z.second) at),
)
