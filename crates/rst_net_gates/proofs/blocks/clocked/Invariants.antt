use Rattle.std.proofs.Common.{drop, map}
use Rattle.rst_net.specs.Units.{plain_process}
use Rattle.rst_net_gates.proofs.Left.{ClockedLeft}
use Rattle.rst_net_gates.proofs.blocks.clocked.Given as goal

abbrev pub invariant-loop-process : goal.invariant-loop-process
invariant-loop-process l = ClockedLeft l.settled l.fn.gates l.fn.wires (map plain_process l.processes) l.gates l.wires (map plain_process (drop l.process-index l.processes))
