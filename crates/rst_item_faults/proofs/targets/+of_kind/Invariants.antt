use Rattle.std.proofs.Common.{◌≡◌, drop}
use Rattle.rst_tree.specs.Targets.{plain_targets}
use Rattle.rst_items.specs.ItemRows.{all_set}
use Rattle.rst_item_faults.specs.Kinds.{kind_in}
use Rattle.rst_item_faults.proofs.targets.+of_kind.Given as goal

-- what is left has the same answer as all of them
abbrev pub invariant-all_set_kind-loop-part : goal.invariant-all_set_kind-loop-part
invariant-all_set_kind-loop-part l =
    all_set (kind_in l.kind l.facts) (plain_targets (drop l.part-index l.parts))
    ≡ all_set (kind_in l.kind l.facts) (plain_targets l.parts)
