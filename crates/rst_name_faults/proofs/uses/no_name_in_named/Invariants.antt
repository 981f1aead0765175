use Rattle.std.proofs.Common.{◌≡◌, map, drop}
use Rattle.std.specs.List.{flat_map}
use Rattle.rst_tree.specs.Modules.{plain_link}
use Rattle.rst_names.specs.Faults.{first}
use Rattle.rst_names.specs.Names.{if_any}
use Rattle.rst_names.specs.Declarations.{declarations}
use Rattle.rst_name_faults.specs.NameRows.{used_in, undeclared_in}
use Rattle.rst_name_faults.specs.Tables.{module_of}
use Rattle.rst_name_faults.proofs.uses.no_name_in_named.Given as goal

abbrev pub invariant-loop-link : goal.invariant-loop-link
invariant-loop-link l = first (undeclared_in (declarations (module_of l.facts)) (flat_map (λ k. if_any used_in k.value) (map plain_link (drop l.link-index l.links)))) ≡ first (undeclared_in (declarations (module_of l.facts)) (flat_map (λ k. if_any used_in k.value) (map plain_link l.links)))
