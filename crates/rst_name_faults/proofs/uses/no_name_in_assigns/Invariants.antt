use Rattle.std.proofs.Common.{◌≡◌, map, drop}
use Rattle.std.specs.List.{flat_map}
use Rattle.rst_tree.specs.Modules.{plain_assign}
use Rattle.rst_names.specs.Faults.{first}
use Rattle.rst_names.specs.Declarations.{declarations}
use Rattle.rst_name_faults.specs.NameRows.{used_in_assign, undeclared_in}
use Rattle.rst_name_faults.specs.Tables.{module_of}
use Rattle.rst_name_faults.proofs.uses.no_name_in_assigns.Given as goal

abbrev pub invariant-loop-assign : goal.invariant-loop-assign
invariant-loop-assign l = first (undeclared_in (declarations (module_of l.facts)) (flat_map used_in_assign (map plain_assign (drop l.assign-index l.assigns)))) ≡ first (undeclared_in (declarations (module_of l.facts)) (flat_map used_in_assign (map plain_assign l.assigns)))
