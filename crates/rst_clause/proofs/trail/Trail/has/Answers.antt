use Rattle.std.proofs.Common.{subst, sym, IsTrue, ◌↔◌, ◌≤◌, unsigned_abs}
use Rattle.std.specs.List.{Contains}
use Rattle.rst_clause.specs.Trails.{Trail', IsConsistent}
use Rattle.rst_clause.proofs.Marks.{mark_tells}
use Rattle.rst_clause.proofs.trail.Trail.has.Goals as goal

pub returns-clause-consistent : goal.returns-clause-consistent
returns-clause-consistent c = subst (λ (z : Trail'). IsConsistent z.lits) c.self.view_is c.self.invariant.consistent

pub returns-clause-value : goal.returns-clause-value
returns-clause-value c =
    let le = subst (λ (z : Trail'). unsigned_abs c.args.lit ≤ z.vars) (sym c.self.view_is) c.requires in
    subst (λ (z : Trail'). IsTrue c.index.result.now ↔ Contains z.lits c.args.lit) c.self.view_is
    (mark_tells _ _ _ _ c.args.lit _ c.index.result.now c.self.invariant le c.place_of.ensures.value c.index.ensures)
