use Rattle.std.proofs.Common.{◌≡◌, ◌++◌, map, drop}
use Rattle.std.specs.List.{flat_map}
use Rattle.rst_tree.specs.Modules.{plain_port_decl}
use Rattle.rst_names.specs.Declarations.{port_declarations}
use Rattle.rst_names.specs.Tables.{plain_declaration}
use Rattle.rst_names.proofs.forms.push_full.Given as goal

abbrev pub invariant-loop-d : goal.invariant-loop-d
invariant-loop-d l = map plain_declaration l.made.items ++ flat_map port_declarations (map plain_port_decl (drop l.d-index l.ports)) ≡ map plain_declaration l.fn.made.items ++ flat_map port_declarations (map plain_port_decl l.ports)
