use Rattle.std.proofs.Common.{subst}
use Rattle.rst_clause.specs.Trails.{Trail', IsConsistent}
use Rattle.rst_clause.proofs.trail.Trail.len.Goals as goal

pub returns-clause-consistent : goal.returns-clause-consistent
returns-clause-consistent c = subst (λ (z : Trail'). IsConsistent z.lits) c.self.view_is c.self.invariant.consistent
