use Rattle.std.proofs.Common.{arith, ◌≡◌, ◌≤◌, ◌<◌, length, subst, sym, ◌∙◌, ap, get_or, unsigned_abs}
use Rattle.std.proofs.lemmas.List.{get_or_default}
use Rattle.rst_clause.specs.Trails.{Trail'}
use Rattle.rst_clause.proofs.trail.Trail.reason.Goals as goal

pub returns : goal.returns
returns c =
    let le = subst (λ (z : Trail'). unsigned_abs c.args.lit ≤ z.vars) (sym c.self.view_is) c.requires in
    let lt : unsigned_abs c.args.lit < length c.self.inside.reasons.items = omega (arith, c.self.invariant.slots) in
    let read : c.index.result.now ≡ get_or c.self.inside.reasons.items (unsigned_abs c.args.lit) 0 =
    c.index.ensures ∙ ap (λ n. get_or c.self.inside.reasons.items n c.index.result.now) c.variable.ensures.value
    ∙ get_or_default c.self.inside.reasons.items (unsigned_abs c.args.lit) c.index.result.now 0 lt in
    subst (λ (z : Trail'). c.index.result.now ≡ get_or z.reasons (unsigned_abs c.args.lit) 0) c.self.view_is read
