use Rattle.std.proofs.Common.{sym, subst}
use Rattle.rst_clause.specs.Trails.{Trail', Grows}
use Rattle.rst_clause.specs.Trails.Grows.{same}
use Rattle.rst_watch.proofs.learn.learn.Goals as goal

pub returns-in_ok-add_true-in-True-clause-learns : goal.returns-in_ok-add_true-in-True-clause-learns
returns-in_ok-add_true-in-True-clause-learns c = (
  c.in_ok-add_true-in-True.ensures.store,
  subst (λ (u : Trail'). Grows c.add_true.new.s.store c.args.s.now.trail u) (sym c.add_true.ensures.trail) same,
)

pub returns-in_ok-add_watched-in-Two-clause-learns : goal.returns-in_ok-add_watched-in-Two-clause-learns
returns-in_ok-add_watched-in-Two-clause-learns c = (
  c.in_ok-add_watched-in-Two.ensures.store,
  subst (λ (u : Trail'). Grows c.add_watched.new.s.store c.args.s.now.trail u) (sym c.add_watched.ensures.trail) same,
)
