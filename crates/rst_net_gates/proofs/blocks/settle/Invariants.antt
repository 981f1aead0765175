use Rattle.std.proofs.Common.{drop, map}
use Rattle.rst_net.specs.Units.{plain_driver}
use Rattle.rst_net_gates.proofs.Left.{UnitsLeft}
use Rattle.rst_net_gates.proofs.blocks.settle.Given as goal

abbrev pub invariant-loop-one : goal.invariant-loop-one
invariant-loop-one l = UnitsLeft l.fn.gates l.fn.wires (map plain_driver l.units) l.gates l.wires (map plain_driver (drop l.one-index l.units))
