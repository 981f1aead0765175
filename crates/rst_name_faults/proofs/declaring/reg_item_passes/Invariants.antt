use Rattle.std.proofs.Common.{◌≡◌, map, filter, drop}
use Rattle.rst_tree.specs.Modules.{plain_net_name}
use Rattle.rst_names.specs.Faults.{first}
use Rattle.rst_names.specs.Declarations.{declarations, declares, is_input}
use Rattle.rst_name_faults.specs.NameRows.{bad_port}
use Rattle.rst_name_faults.specs.Tables.{module_of}
use Rattle.rst_name_faults.proofs.declaring.reg_item_passes.Given as goal

abbrev pub invariant-loop-net : goal.invariant-loop-net
invariant-loop-net l = first (map bad_port (filter (declares is_input (declarations (module_of l.facts))) (map (λ n. n.name) (map plain_net_name (drop l.net-index l.d.names.items)))))
    ≡ first (map bad_port (filter (declares is_input (declarations (module_of l.facts))) (map (λ n. n.name) (map plain_net_name l.d.names.items))))
