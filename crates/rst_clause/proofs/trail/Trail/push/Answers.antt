use Rattle.std.proofs.Common.{subst, sym, ◌≤◌, unsigned_abs, ◌++◌, ◌∷◌, [], set, true}
use Rattle.std.specs.List.{Contains}
use Rattle.rst_clause.specs.Literals.{opposite}
use Rattle.rst_clause.specs.Trails.{Trail', AreMarks, place_of}
use Rattle.rst_clause.proofs.Marks.{AreMarks-push}
use Rattle.rst_clause.proofs.trail.Trail.push.Goals as goal

pub invariant_of-self-2 : goal.invariant_of-self-2
invariant_of-self-2 c =
    let le = subst (λ (z : Trail'). unsigned_abs c.args.lit ≤ z.vars) (sym c.self.view_is) c.requires.in_range in
    let new = subst (λ (z : Trail'). Contains z.lits c.args.lit → ⊥) (sym c.self.view_is) c.requires.not_there in
    let free = subst (λ (z : Trail'). Contains z.lits (opposite c.args.lit) → ⊥) (sym c.self.view_is) c.requires.not_opposite in
    rw (c.in_ok-push.ensures.items, c.place_of.ensures.value, c.variable.ensures.value) (AreMarks-push _ _ _ _ _ c.args.reason c.self.invariant le c.place_of.ensures.nonzero new free)

pub returns-clause-consistent : goal.returns-clause-consistent
returns-clause-consistent c =
    let le = subst (λ (z : Trail'). unsigned_abs c.args.lit ≤ z.vars) (sym c.self.view_is) c.requires.in_range in
    let new = subst (λ (z : Trail'). Contains z.lits c.args.lit → ⊥) (sym c.self.view_is) c.requires.not_there in
    let free = subst (λ (z : Trail'). Contains z.lits (opposite c.args.lit) → ⊥) (sym c.self.view_is) c.requires.not_opposite in
    let m : AreMarks c.self.inside.vars (c.self.inside.lits.items ++ c.args.lit ∷ []) (set c.self.inside.reasons.items (unsigned_abs c.args.lit) c.args.reason) (set c.self.inside.marks.items (place_of c.args.lit) true)
    = AreMarks-push _ _ _ _ _ c.args.reason c.self.invariant le c.place_of.ensures.nonzero new free in
    rw c.in_ok-push.ensures.items m.consistent
