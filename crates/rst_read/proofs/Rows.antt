-- What a longer list is, in plain form.
use Rattle.std.proofs.Common.{◌≡◌, max, arith, List, [], ◌∷◌, ◌++◌, refl, ap, ◌∙◌}
use Rattle.rst_tree.specs.declared.expr.Expr.{Expr}
use Rattle.rst_tree.proofs.Rows.{push_is}
use Rattle.rst_tree.specs.Trees.{Tree, Trees, end, more, plain, plain_all, appended, greatest, height}

-- the greatest height of a longer list
greatest-appended : (xs : Trees) (x : Tree) → greatest (appended xs x) ≡ max (greatest xs) (height x)
greatest-appended end x = omega arith
greatest-appended (more y ys) x = omega (arith, greatest-appended ys x)

pub greatest_is : (xs : List Expr) (x : Expr) → greatest (plain_all (xs ++ x ∷ [])) ≡ max (greatest (plain_all xs)) (height (plain x))
greatest_is xs x = ap greatest (push_is xs x) ∙ greatest-appended (plain_all xs) (plain x)

pub ruleset pushes = (push_is, greatest_is)
