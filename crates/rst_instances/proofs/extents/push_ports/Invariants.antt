use Rattle.std.proofs.Common.{◌≡◌, ◌++◌, map, drop}
use Rattle.std.specs.List.{flat_map}
use Rattle.rst_tree.specs.Modules.{plain_port_decl}
use Rattle.rst_instances.specs.RangeRows.{ranged_port}
use Rattle.rst_instances.specs.Rows.{plain_ranged}
use Rattle.rst_instances.proofs.extents.push_ports.Given as goal

abbrev pub invariant-loop-d : goal.invariant-loop-d
invariant-loop-d l = map plain_ranged l.made.items ++ flat_map ranged_port (map plain_port_decl (drop l.d-index l.ports)) ≡ map plain_ranged l.fn.made.items ++ flat_map ranged_port (map plain_port_decl l.ports)
