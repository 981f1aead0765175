use Rattle.std.proofs.Common.{◌≡◌, ◌++◌, map, drop}
use Rattle.rst_tree.specs.Modules.{plain_param_decl, plain_param_name}
use Rattle.rst_names.specs.Declarations.{param_declaration, param_declarations}
use Rattle.rst_names.specs.Tables.{plain_declaration}
use Rattle.rst_names.proofs.forms.push_params.Given as goal

abbrev pub invariant-loop-param : goal.invariant-loop-param
invariant-loop-param l = map plain_declaration l.made.items ++ map (param_declaration (plain_param_decl l.d)) (map plain_param_name (drop l.param-index l.d.names.items)) ≡ map plain_declaration l.fn.made.items ++ param_declarations (plain_param_decl l.d)
