use Rattle.std.proofs.Common.{◌≡◌, ◌++◌, map, drop, Bor}
use Rattle.std.specs.List.{flat_map}
use Rattle.rst_tree.specs.Trees.{Text}
use Rattle.rst_tree.specs.Modules.{plain_item}
use Rattle.rst_names.specs.Declarations.{settable_of, item_params}
use Rattle.rst_names.proofs.facts.push_items.Given as goal

abbrev pub invariant-loop-item : goal.invariant-loop-item
invariant-loop-item l = map (λ (n : Bor Text). n.now) l.made.items ++ flat_map settable_of (flat_map item_params (map plain_item (drop l.item-index l.items))) ≡ map (λ (n : Bor Text). n.now) l.fn.made.items ++ flat_map settable_of (flat_map item_params (map plain_item l.items))
