use Rattle.std.proofs.Common.{◌≡◌, map, take}
use Rattle.rst_gate.specs.Operations.{on_terns}
use Rattle.rst_gate.specs.Nodes.{edge_value}
use Rattle.rst_widen.proofs.cycle.read_into.Given as goal

abbrev pub invariant-loop-edge : goal.invariant-loop-edge
invariant-loop-edge l = l.list.items ≡ map (edge_value on_terns l.values) (take l.edge-index l.edges)
