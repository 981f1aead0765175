use Rattle.std.proofs.Common.{◌≡◌, ◌∙◌, ap, refl, List, ℤ, ◌++◌, ◌∷◌, [], rules}
use Rattle.rst_solve.proofs.Lines.{bits_fit}
use Rattle.rst_solve.proofs.Steps.{below_closed}
use Rattle.rst_solve.proofs.tree.close.Goals as goal

pub denied-requires : goal.denied-requires
denied-requires c = bits_fit c.args.q.now.free c.args.q.now.vars c.args.q.now.all c.args.t.now.levels c.args.t.now.trail.lits c.args.q.now.below c.args.q.now.few c.requires.below.at.place

pub returns-clause-closed : goal.returns-clause-closed
returns-clause-closed c =
    let paths : c.push.new.self.items ≡ c.args.t.now.paths.items ++ c.args.t.now.path.items ∷ [] = search rules in
    below_closed c.args.q.now.free c.args.q.now.vars c.args.q.now.all c.args.t.now _ c.args.q.now.below c.len-stand.ensures.consistent c.requires.below c.requires.conflict refl refl refl
    (c.in_ok-push-2.ensures.ok ∙ ap (λ (z : List ℤ). c.args.t.now.log ++ z ∷ []) c.in_ok-line.ensures) paths
