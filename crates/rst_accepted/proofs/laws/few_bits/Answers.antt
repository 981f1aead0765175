use Rattle.rst_flat_laws.proofs.Limits.{few}
use Rattle.rst_accepted.proofs.Rows.{rows_pass}
use Rattle.rst_accepted.proofs.laws.few_bits.Goals as goal

pub returns : goal.returns
returns c flat e = few flat (rows_pass flat e).drivers
