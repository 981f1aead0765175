use Rattle.std.proofs.Common.{◌++◌, ◌∙◌, ap, subst, sym}
use Rattle.rst_clause.specs.Literals.{AreLiterals}
use Rattle.rst_pose.proofs.Growing.{literals_append}
use Rattle.rst_pose.proofs.land.joined.Goals as goal

pub returns-clause-held : goal.returns-clause-held
returns-clause-held c n left right =
    let is = c.in_ok-extend_from_slice.ensures.items ∙ ap (λ xs. xs ++ c.args.right.now) c.in_ok-lits.ensures.items in
    subst (AreLiterals n) (sym is) (literals_append n c.args.left.now c.args.right.now left right)
