use Rattle.std.proofs.Common.{map, arith}
use Rattle.rst_net.specs.Units.{plain_signal}
use Rattle.rst_weight.proofs.Sums.{labels-none}
use Rattle.rst_weight.proofs.weights.labels_weight.Goals as goal

pub returns : goal.returns
returns c = omega (arith, labels-none (map plain_signal c.args.signals.now) c.args.width c.args.labels.now c.loop-label.label-index)
