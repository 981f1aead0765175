use Rattle.std.proofs.Common.{map, arith}
use Rattle.rst_net.specs.Units.{plain_signal}
use Rattle.rst_weight.proofs.Sums.{units-none}
use Rattle.rst_weight.proofs.weights.units_weight.Goals as goal

pub returns : goal.returns
returns c = omega (arith, units-none (map plain_signal c.args.signals.now) c.args.units.now c.loop-unit.unit-index)
