use Rattle.std.proofs.Common.{subst, sym, ap}
use Rattle.rst_clause.specs.Trails.{Trail'}
use Rattle.rst_watch.specs.Watching.{IsWatching}
use Rattle.rst_watch.proofs.States.{watching_pushed}
use Rattle.rst_watch.proofs.levels.assume.Goals as goal

pub returns-in_err-push-clause-watching : goal.returns-in_err-push-clause-watching
returns-in_err-push-clause-watching c =
    subst (λ (u : Trail'). IsWatching (record c.args.s.now { trail = u })) (sym c.in_err-push.ensures.err) c.requires.watching

pub returns-clause-watching : goal.returns-clause-watching
returns-clause-watching c =
    watching_pushed c.args.s.now c.push.new.self c.args.lit c.requires.watching (ap (λ (t : Trail'). t.vars) c.in_ok-push.ensures.ok) (ap (λ (t : Trail'). t.lits) c.in_ok-push.ensures.ok)
