use Rattle.std.proofs.Common.{◌≡◌, map, drop}
use Rattle.std.specs.List.{flat_map}
use Rattle.rst_tree.specs.Modules.{plain_port_decl}
use Rattle.rst_names.specs.Faults.{first}
use Rattle.rst_name_faults.specs.NameRows.{input_regs}
use Rattle.rst_name_faults.proofs.declaring.full_passes.Given as goal

abbrev pub invariant-loop-d : goal.invariant-loop-d
invariant-loop-d l = first (flat_map input_regs (map plain_port_decl (drop l.d-index l.ports))) ≡ first (flat_map input_regs (map plain_port_decl l.ports))
