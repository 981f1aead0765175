use Rattle.std.proofs.Common.{◌≡◌, ◌≤◌, length}
use Rattle.rst_gate.specs.Circuits.{IsBelow}
use Rattle.rst_gate.specs.GateLists.{next_node}
use Rattle.rst_search_bench.proofs.netlist.netlist.Given as goal

abbrev pub invariant-loop-number : goal.invariant-loop-number
invariant-loop-number l =
    (l.builder.inputs ≡ 1) × (l.builder.states ≡ l.registers) × (length l.builder.gates ≤ l.number) × IsBelow (next_node l.builder) l.last
