use Rattle.std.proofs.Common.{◌≡◌, ◌++◌, map, drop}
use Rattle.std.specs.List.{flat_map}
use Rattle.rst_tree.specs.Modules.{plain_param_decl}
use Rattle.rst_names.specs.Declarations.{param_declarations}
use Rattle.rst_names.specs.Tables.{plain_declaration}
use Rattle.rst_names.proofs.forms.push_groups.Given as goal

abbrev pub invariant-loop-d : goal.invariant-loop-d
invariant-loop-d l = map plain_declaration l.made.items ++ flat_map param_declarations (map plain_param_decl (drop l.d-index l.params)) ≡ map plain_declaration l.fn.made.items ++ flat_map param_declarations (map plain_param_decl l.params)
