use Rattle.std.proofs.Common.{subst, sym}
use Rattle.rst_width.specs.Plain.{plain_sized}
use Rattle.rst_width.specs.Fit.{FitsIn}
use Rattle.rst_width.proofs.Fits.{in_context-fit}
use Rattle.rst_width.proofs.typing.in_context.Goals as goal

pub returns-clause-fit : goal.returns-clause-fit
returns-clause-fit c =
    subst (FitsIn c.args.context) (sym c.in_ok-answer.ensures) (in_context-fit (plain_sized c.args.sized) c.args.context c.requires.fit c.requires.inside)
