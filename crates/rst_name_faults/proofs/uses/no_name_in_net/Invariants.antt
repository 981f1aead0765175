use Rattle.std.proofs.Common.{◌≡◌, map, drop}
use Rattle.std.specs.List.{flat_map}
use Rattle.rst_tree.specs.Modules.{plain_net_name}
use Rattle.rst_names.specs.Faults.{first}
use Rattle.rst_names.specs.Names.{if_any}
use Rattle.rst_names.specs.Declarations.{declarations}
use Rattle.rst_name_faults.specs.NameRows.{used_in, undeclared_in}
use Rattle.rst_name_faults.specs.Tables.{module_of}
use Rattle.rst_name_faults.proofs.uses.no_name_in_net.Given as goal

abbrev pub invariant-loop-net : goal.invariant-loop-net
invariant-loop-net l = first (undeclared_in (declarations (module_of l.facts)) (flat_map (λ n. if_any used_in n.value) (map plain_net_name (drop l.net-index l.d.names.items)))) ≡ first (undeclared_in (declarations (module_of l.facts)) (flat_map (λ n. if_any used_in n.value) (map plain_net_name l.d.names.items)))
