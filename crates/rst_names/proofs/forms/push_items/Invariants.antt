use Rattle.std.proofs.Common.{◌≡◌, ◌++◌, map, drop}
use Rattle.std.specs.List.{flat_map}
use Rattle.rst_tree.specs.Modules.{plain_item}
use Rattle.rst_names.specs.Declarations.{item_declarations}
use Rattle.rst_names.specs.Tables.{plain_declaration}
use Rattle.rst_names.proofs.forms.push_items.Given as goal

abbrev pub invariant-loop-item : goal.invariant-loop-item
invariant-loop-item l = map plain_declaration l.made.items ++ flat_map item_declarations (map plain_item (drop l.item-index l.items)) ≡ map plain_declaration l.fn.made.items ++ flat_map item_declarations (map plain_item l.items)
