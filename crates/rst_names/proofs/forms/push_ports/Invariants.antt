use Rattle.std.proofs.Common.{◌≡◌, ◌++◌, map, drop}
use Rattle.rst_tree.specs.Modules.{plain_port_decl}
use Rattle.rst_names.specs.Declarations.{port_declaration, port_declarations}
use Rattle.rst_names.specs.Tables.{plain_declaration}
use Rattle.rst_names.proofs.forms.push_ports.Given as goal

abbrev pub invariant-loop-name : goal.invariant-loop-name
invariant-loop-name l = map plain_declaration l.made.items ++ map (port_declaration (plain_port_decl l.d)) (drop l.name-index l.d.names.items) ≡ map plain_declaration l.fn.made.items ++ port_declarations (plain_port_decl l.d)
