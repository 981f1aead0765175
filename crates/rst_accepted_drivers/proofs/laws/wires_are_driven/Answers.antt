use Rattle.rst_accepted_drivers.proofs.Roles.{wires}
use Rattle.rst_accepted_drivers.proofs.laws.wires_are_driven.Goals as goal

pub returns : goal.returns
returns c flat e unit i place within driven = wires flat e unit i place within driven
