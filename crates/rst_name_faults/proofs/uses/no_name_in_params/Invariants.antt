use Rattle.std.proofs.Common.{◌≡◌, map, drop}
use Rattle.std.specs.List.{flat_map}
use Rattle.rst_tree.specs.Modules.{plain_param_name}
use Rattle.rst_names.specs.Faults.{first}
use Rattle.rst_names.specs.Declarations.{declarations}
use Rattle.rst_name_faults.specs.NameRows.{used_in, undeclared_in}
use Rattle.rst_name_faults.specs.Tables.{module_of}
use Rattle.rst_name_faults.proofs.uses.no_name_in_params.Given as goal

abbrev pub invariant-loop-param : goal.invariant-loop-param
invariant-loop-param l = first (undeclared_in (declarations (module_of l.facts)) (flat_map (λ n. used_in n.value) (map plain_param_name (drop l.param-index l.d.names.items)))) ≡ first (undeclared_in (declarations (module_of l.facts)) (flat_map (λ n. used_in n.value) (map plain_param_name l.d.names.items)))
