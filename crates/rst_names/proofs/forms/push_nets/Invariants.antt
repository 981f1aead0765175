use Rattle.std.proofs.Common.{◌≡◌, ◌++◌, map, drop}
use Rattle.rst_tree.specs.Modules.{plain_net_decl, plain_net_name}
use Rattle.rst_names.specs.Declarations.{net_declaration, net_declarations}
use Rattle.rst_names.specs.Tables.{plain_declaration}
use Rattle.rst_names.proofs.forms.push_nets.Given as goal

abbrev pub invariant-loop-net : goal.invariant-loop-net
invariant-loop-net l = map plain_declaration l.made.items ++ map (net_declaration (plain_net_decl l.d)) (map plain_net_name (drop l.net-index l.d.names.items)) ≡ map plain_declaration l.fn.made.items ++ net_declarations (plain_net_decl l.d)
