use Rattle.std.proofs.Common.{map, arith}
use Rattle.rst_net.specs.Units.{plain_signal}
use Rattle.rst_weight.proofs.Sums.{clocked-none}
use Rattle.rst_weight.proofs.weights.clocked_weight.Goals as goal

pub returns : goal.returns
returns c = omega (arith, clocked-none (map plain_signal c.args.signals.now) c.args.clocked.now c.loop-process.process-index)
