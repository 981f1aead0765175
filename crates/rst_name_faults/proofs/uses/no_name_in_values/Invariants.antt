use Rattle.std.proofs.Common.{◌≡◌, map, drop}
use Rattle.std.specs.List.{flat_map}
use Rattle.std.specs.Option.{option_map}
use Rattle.rst_tree.specs.Trees.{plain}
use Rattle.rst_names.specs.Faults.{first}
use Rattle.rst_names.specs.Names.{if_any}
use Rattle.rst_names.specs.Declarations.{declarations}
use Rattle.rst_name_faults.specs.NameRows.{used_in, undeclared_in}
use Rattle.rst_name_faults.specs.Tables.{module_of}
use Rattle.rst_name_faults.proofs.uses.no_name_in_values.Given as goal

abbrev pub invariant-loop-value : goal.invariant-loop-value
invariant-loop-value l = first (undeclared_in (declarations (module_of l.facts)) (flat_map (if_any used_in) (map (option_map plain) (drop l.value-index l.values)))) ≡ first (undeclared_in (declarations (module_of l.facts)) (flat_map (if_any used_in) (map (option_map plain) l.values)))
