use Rattle.std.proofs.Common.{◌≡◌, map, drop}
use Rattle.std.specs.List.{flat_map}
use Rattle.rst_tree.specs.Modules.{plain_item}
use Rattle.rst_names.specs.Faults.{first}
use Rattle.rst_name_faults.specs.NameRows.{bad_item, bad_ports}
use Rattle.rst_name_faults.specs.Tables.{module_of}
use Rattle.rst_name_faults.proofs.declaring.ports_pass.Given as goal

abbrev pub invariant-loop-item : goal.invariant-loop-item
invariant-loop-item l = first (flat_map (bad_item (module_of l.facts)) (map plain_item (drop l.item-index l.facts.«module».now.items.items))) ≡ first (bad_ports (module_of l.facts))
