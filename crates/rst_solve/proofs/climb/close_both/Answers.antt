use Rattle.std.proofs.Common.{◌∙◌, ap, refl, List, ℤ, ◌++◌, ◌∷◌, []}
use Rattle.rst_solve.proofs.Lines.{bits_fit}
use Rattle.rst_solve.proofs.Steps.{lifted_closed}
use Rattle.rst_solve.proofs.climb.close_both.Goals as goal

pub denied-requires : goal.denied-requires
denied-requires c = bits_fit c.args.q.now.free c.args.q.now.vars c.args.q.now.all c.args.t.now.levels c.args.t.now.trail.lits c.args.q.now.below c.args.q.now.few c.requires.lifted.at.place

pub returns-clause-closed : goal.returns-clause-closed
returns-clause-closed c =
    lifted_closed c.args.q.now.free c.args.q.now.vars c.args.q.now.all c.args.t.now _ c.args.level c.args.q.now.below c.requires.lifted c.requires.second refl refl refl
    (c.in_ok-push.ensures.ok ∙ ap (λ (z : List ℤ). c.args.t.now.log ++ z ∷ []) c.in_ok-line.ensures) refl
