use Rattle.std.proofs.Common.{arith, map}
use Rattle.rst_net.specs.Units.{plain_driver}
use Rattle.rst_net_gates.proofs.Left.{units_turn}
use Rattle.rst_net_gates.proofs.blocks.settle.Goals as goal

pub loop-one-preserved : goal.loop-one-preserved
loop-one-preserved c =
    units_turn c.args.gates.now c.args.wires.now (map plain_driver c.args.units.now) c.loop-one.gates c.unit_gates.new.gates c.loop-one.wires c.unit_gates.new.wires c.args.units.now c.loop-one.one-index c.one-item.result
    (omega arith) c.one-item.is c.loop-one.invariant c.in_ok-unit_gates.ensures.gates c.in_ok-unit_gates.ensures.wires c.in_ok-unit_gates.ensures.stand c.in_ok-unit_gates.ensures.widths c.in_ok-unit_gates.ensures.count c.in_ok-unit_gates.ensures.grows
    c.in_ok-unit_gates.ensures.few
