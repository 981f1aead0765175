use Rattle.std.proofs.Common.{◌≡◌, ◌∷◌, ◌<◌, length, ap, subst, refl, arith, rules}
use Rattle.rst_clause.specs.Trails.{Trail'}
use Rattle.rst_solve.specs.Tree.{IsPlace}
use Rattle.rst_solve.proofs.Steps.{path_long, closed_lifted}
use Rattle.rst_solve.proofs.climb.lift.Goals as goal

pub index_mut-requires : goal.index_mut-requires
index_mut-requires c =
    let w : length c.args.t.now.path.items ≡ c.args.q.now.free = path_long _ _ _ c.args.t.now c.requires.closed.at in
    let e : c.args.t.now.levels ≡ c.in_ok-level.level ∷ c.pop.new.self = c.in_ok-level.ensures in
    let p : IsPlace c.args.q.now.free c.args.q.now.all (c.in_ok-level.level ∷ c.pop.new.self) c.args.t.now.trail.lits =
    subst (λ z. IsPlace c.args.q.now.free c.args.q.now.all z c.args.t.now.trail.lits) e c.requires.closed.at.place in
    let lt : c.in_ok-level.level.bit < c.args.q.now.free = p.1.bit in
    omega arith

pub returns-clause-lifted : goal.returns-clause-lifted
returns-clause-lifted c =
    closed_lifted _ _ _ c.args.t.now _ c.in_ok-level.level c.pop.new.self c.requires.closed c.in_ok-level.ensures (ap (λ (t : Trail'). t.vars) c.truncate.ensures)
    (ap (λ (t : Trail'). t.lits) c.truncate.ensures) refl (search rules) refl refl
