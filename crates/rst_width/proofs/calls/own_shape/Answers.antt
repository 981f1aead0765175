use Rattle.std.proofs.Common.{◌∙◌, ap, false}
use Rattle.rst_tree.specs.Trees.{plain}
use Rattle.rst_width.specs.Scopes.{names_of}
use Rattle.rst_width.specs.Sizing.{sized}
use Rattle.rst_width.specs.Sized.{own}
use Rattle.rst_width.proofs.Cuts.{own-cut}
use Rattle.rst_width.proofs.calls.own_shape.Goals as goal

pub returns : goal.returns
returns c = c.own-shape.ensures ∙ ap own c.in_ok-sized.ensures.exact ∙ own-cut (sized false (names_of c.args.scope.now) (plain c.args.expr.now))
