use Rattle.rst_typed_fits.proofs.OneKind.{one_kind}
use Rattle.rst_typed_fits.proofs.laws.kinds_by_first_set.Goals as goal

pub returns : goal.returns
returns c = one_kind
