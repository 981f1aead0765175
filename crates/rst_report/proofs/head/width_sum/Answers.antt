use Rattle.std.proofs.Common.{◌≡◌, ◌+◌, drop, arith}
use Rattle.rst_report.specs.Heads.{width_sum}
use Rattle.rst_report.proofs.Loops.{width_sum-drop}
use Rattle.rst_report.proofs.head.width_sum.Goals as goal

pub overflow_add-sum : goal.overflow_add-sum
overflow_add-sum c =
    let before : c.loop-port.sum + width_sum (drop c.loop-port.port-index c.args.ports.now) ≡ width_sum c.args.ports.now = c.loop-port.invariant in
    omega (arith, width_sum-drop c.args.ports.now c.loop-port.port-index c.port-item.result (omega arith) c.port-item.is, c.requires)

pub loop-port-preserved : goal.loop-port-preserved
loop-port-preserved c =
    let before : c.loop-port.sum + width_sum (drop c.loop-port.port-index c.args.ports.now) ≡ width_sum c.args.ports.now = c.loop-port.invariant in
    let step : (c.loop-port.sum + c.from-sum.result) + width_sum (drop (c.loop-port.port-index + 1) c.args.ports.now) ≡ width_sum c.args.ports.now =
    omega (arith, width_sum-drop c.args.ports.now c.loop-port.port-index c.port-item.result (omega arith) c.port-item.is) in
    step
