use Rattle.rst_accepted_drivers.proofs.Roles.{resets}
use Rattle.rst_accepted_drivers.proofs.laws.resets_are_inputs.Goals as goal

pub returns : goal.returns
returns c flat e process reset within at = resets flat e process reset within at
