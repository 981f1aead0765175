use Rattle.std.proofs.Common.{subst, IfOk}
use Rattle.rst_watch.specs.Choices.{Learns}
use Rattle.rst_watch.specs.Propagators.{Propagator'}
use Rattle.rst_watch.proofs.propagator.Propagator.learn.Goals as goal

pub returns-clause-learns : goal.returns-clause-learns
returns-clause-learns c =
    subst (λ (p : Propagator'). IfOk c.learn.result (λ is_false. Learns p.clauses c.learn.new.s.store p.trail c.learn.new.s.trail c.args.clause.now is_false)) c.self.view_is c.learn.ensures.learns
