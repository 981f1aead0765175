use Rattle.std.proofs.Common.{subst, ◌<◌, ◌^◌}
use Rattle.rst_watch.specs.Propagators.{Propagator'}
use Rattle.rst_watch.proofs.propagator.Propagator.vars.Goals as goal

pub returns-clause-few : goal.returns-clause-few
returns-clause-few c = subst (λ (p : Propagator'). p.trail.vars < 2 ^ 31) c.self.view_is c.self.invariant.few
