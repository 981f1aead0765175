use Rattle.std.proofs.Common.{◌∙◌, ap, false}
use Rattle.rst_tree.specs.Trees.{plain}
use Rattle.rst_width.specs.Scopes.{Names}
use Rattle.rst_width.specs.Sizing.{sized}
use Rattle.rst_width.specs.Cut.{cut}
use Rattle.rst_width.proofs.NameTables.{names_alone}
use Rattle.rst_width.proofs.calls.sized_in.Goals as goal

pub returns-clause-exact : goal.returns-clause-exact
returns-clause-exact c =
    c.in_ok-sized.ensures.exact
    ∙ ap (λ (names : Names). cut (sized false names (plain c.args.expr.now))) (names_alone c.args.scope.now c.new-unshaped.result c.new-unshaped.ensures)
