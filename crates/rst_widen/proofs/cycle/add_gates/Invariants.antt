use Rattle.std.proofs.Common.{◌≡◌, ◌+◌, length, drop}
use Rattle.rst_gate.specs.Operations.{on_terns}
use Rattle.rst_gate.specs.Nodes.{values_behind}
use Rattle.rst_widen.proofs.cycle.add_gates.Given as goal

abbrev pub invariant-loop-gate : goal.invariant-loop-gate
invariant-loop-gate l = record {
  values : values_behind on_terns (drop l.gate-index l.gates) l.nodes.items ≡ values_behind on_terns l.gates l.fn.nodes.items;
  count : length l.nodes.items ≡ length l.fn.nodes.items + l.gate-index;
}
