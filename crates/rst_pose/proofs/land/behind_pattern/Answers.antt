use Rattle.std.proofs.Common.{subst, sym}
use Rattle.std.proofs.lemmas.Result.{IfOk-weaker}
use Rattle.rst_clause.specs.Literals.{AreLiterals}
use Rattle.rst_pose.proofs.land.behind_pattern.Goals as goal

pub returns-clause-held : goal.returns-clause-held
returns-clause-held c =
    let vars = c.loop-cube.dom.clauses.vars in
    IfOk-weaker c.joined.result _ (λ lits. AreLiterals vars lits.items)
    (λ lits held. held vars (subst (AreLiterals vars) (sym c.as_slice-2.ensures.value) c.loop-cube.invariant.left)
    (subst (AreLiterals vars) (sym c.as_slice-3.ensures.value) c.loop-cube.invariant.right))
    c.joined.ensures.held
