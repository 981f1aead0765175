use Rattle.rst_versions.proofs.Versions.{none_free}
use Rattle.rst_versions.proofs.laws.version_1_has_no_free_bits.Goals as goal

pub returns : goal.returns
returns c = none_free
