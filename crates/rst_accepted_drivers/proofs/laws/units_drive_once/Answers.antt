use Rattle.rst_accepted.proofs.Rows.{rows_pass}
use Rattle.rst_accepted_drivers.proofs.Counts.{once}
use Rattle.rst_accepted_drivers.proofs.laws.units_drive_once.Goals as goal

pub returns : goal.returns
returns c flat e unit within = once flat (rows_pass flat e).drivers (c.units_are_sound.ensures flat e) unit within
