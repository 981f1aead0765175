use Rattle.std.proofs.Common.{◌≡◌, map, drop}
use Rattle.std.specs.List.{flat_map}
use Rattle.rst_tree.specs.Modules.{plain_param_decl}
use Rattle.rst_names.specs.Faults.{first}
use Rattle.rst_names.specs.Declarations.{declarations}
use Rattle.rst_name_faults.specs.NameRows.{used_in_params, undeclared_in}
use Rattle.rst_name_faults.specs.Tables.{module_of}
use Rattle.rst_name_faults.proofs.uses.no_name_in_parameters.Given as goal

abbrev pub invariant-loop-d : goal.invariant-loop-d
invariant-loop-d l = first (undeclared_in (declarations (module_of l.facts)) (flat_map used_in_params (map plain_param_decl (drop l.d-index l.params)))) ≡ first (undeclared_in (declarations (module_of l.facts)) (flat_map used_in_params (map plain_param_decl l.params)))
