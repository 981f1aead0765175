use Rattle.std.proofs.Common.{subst}
use Rattle.rst_clause.specs.Trails.{IsConsistent}
use Rattle.rst_watch.specs.Propagators.{Propagator'}
use Rattle.rst_watch.proofs.propagator.Propagator.has.Goals as goal

pub returns-clause-consistent : goal.returns-clause-consistent
returns-clause-consistent c = subst (λ (p : Propagator'). IsConsistent p.trail.lits) c.self.view_is c.has.ensures.consistent
