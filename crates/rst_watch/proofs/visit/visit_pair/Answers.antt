use Rattle.std.proofs.Common.{subst, sym}
use Rattle.rst_clause.specs.Trails.{Trail', Grows}
use Rattle.rst_clause.specs.Trails.Grows.{same}
use Rattle.rst_watch.proofs.visit.visit_pair.Goals as goal

pub returns-then-has-clause-grows : goal.returns-then-has-clause-grows
returns-then-has-clause-grows c = same

pub returns-in-Some-clause-grows : goal.returns-in-Some-clause-grows
returns-in-Some-clause-grows c = subst (λ (u : Trail'). Grows c.args.s.now.store c.args.s.now.trail u) (sym c.watch.ensures.trail) same
