use Rattle.std.proofs.Common.{◌≡◌, map, filter, drop}
use Rattle.rst_tree.specs.Modules.{plain_port_decl}
use Rattle.rst_names.specs.Faults.{first}
use Rattle.rst_name_faults.specs.NameRows.{bad_port, is_bad_direction}
use Rattle.rst_name_faults.specs.Tables.{module_of}
use Rattle.rst_name_faults.proofs.declaring.port_item_passes.Given as goal

abbrev pub invariant-loop-name : goal.invariant-loop-name
invariant-loop-name l = first (map bad_port (filter (is_bad_direction (module_of l.facts) (plain_port_decl l.d)) (drop l.name-index l.d.names.items)))
    ≡ first (map bad_port (filter (is_bad_direction (module_of l.facts) (plain_port_decl l.d)) l.d.names.items))
