use Rattle.std.proofs.Common.{◌≡◌, map, drop, is_none}
use Rattle.std.specs.List.{list_any}
use Rattle.std.specs.Option.{option_map}
use Rattle.rst_tree.specs.Trees.{plain}
use Rattle.rst_hierarchy.proofs.connects.has_empty_value.Given as goal

abbrev pub invariant-loop-value : goal.invariant-loop-value
invariant-loop-value l = list_any is_none (map (option_map plain) (drop l.value-index l.values)) ≡ list_any is_none (map (option_map plain) l.values)
