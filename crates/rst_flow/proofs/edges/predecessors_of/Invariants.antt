use Rattle.std.proofs.Common.{◌≡◌, ◌++◌, drop, map}
use Rattle.rst_order.specs.Graphs.{graph_of}
use Rattle.rst_net.specs.Units.{plain_driver}
use Rattle.rst_flow.specs.Tables.{table_of, graph_from}
use Rattle.rst_flow.proofs.edges.predecessors_of.Given as goal

abbrev pub invariant-loop-unit : goal.invariant-loop-unit
invariant-loop-unit l = graph_of l.predecessors.items ++ graph_from (table_of l.drives) l.unit (map plain_driver (drop l.unit l.units)) ≡ graph_from (table_of l.drives) 0 (map plain_driver l.units)
