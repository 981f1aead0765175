use Rattle.std.proofs.Common.{◌≡◌, ◌&&◌, is_some, map, drop}
use Rattle.std.specs.List.{list_any}
use Rattle.rst_tree.specs.Targets.{Whole}
use Rattle.rst_tree.specs.Modules.{PlainNetName, plain_net_name}
use Rattle.rst_width.specs.Scopes.{names_of}
use Rattle.rst_items.specs.ItemRows.{is_bad_target}
use Rattle.rst_item_faults.specs.Kinds.{kind_in}
use Rattle.rst_item_faults.specs.declared.targets.Kind.TheVariants.{Wire}
use Rattle.rst_item_faults.proofs.targets.one_wire_bad.Given as goal

-- what is left has the same answer as all of them
abbrev pub invariant-loop-net : goal.invariant-loop-net
invariant-loop-net l =
    list_any (λ (n : PlainNetName). is_some n.value && is_bad_target (names_of l.names) (kind_in Wire l.facts) (Whole n.name)) (map plain_net_name (drop l.net-index l.nets))
    ≡ list_any (λ (n : PlainNetName). is_some n.value && is_bad_target (names_of l.names) (kind_in Wire l.facts) (Whole n.name)) (map plain_net_name l.nets)
