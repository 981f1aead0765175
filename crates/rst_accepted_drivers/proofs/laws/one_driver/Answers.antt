use Rattle.rst_accepted.proofs.Rows.{rows_pass}
use Rattle.rst_accepted_drivers.proofs.Counts.{one}
use Rattle.rst_accepted_drivers.proofs.laws.one_driver.Goals as goal

pub returns : goal.returns
returns c flat e = one flat (rows_pass flat e).drivers (c.units_are_sound.ensures flat e)
