use Rattle.std.proofs.Common.{◌≡◌, map, drop}
use Rattle.std.specs.List.{flat_map}
use Rattle.rst_tree.specs.Modules.{plain_copied}
use Rattle.rst_names.specs.Faults.{first}
use Rattle.rst_names.specs.Declarations.{declarations}
use Rattle.rst_name_faults.specs.NameRows.{used_in_links, undeclared_in}
use Rattle.rst_name_faults.specs.Tables.{module_of}
use Rattle.rst_name_faults.proofs.uses.no_name_in_instance.Given as goal

abbrev pub invariant-loop-copy : goal.invariant-loop-copy
invariant-loop-copy l = first (undeclared_in (declarations (module_of l.facts)) (flat_map (λ c. used_in_links c.ports) (map plain_copied (drop l.copy-index l.instance.copies.items)))) ≡ first (undeclared_in (declarations (module_of l.facts)) (flat_map (λ c. used_in_links c.ports) (map plain_copied l.instance.copies.items)))
