use Rattle.std.proofs.Common.{◌≡◌, drop}
use Rattle.rst_tree.specs.Trees.{plain_all}
use Rattle.rst_items.specs.ItemRows.{are_targets_of}
use Rattle.rst_item_faults.specs.Kinds.{kind_in}
use Rattle.rst_item_faults.proofs.targets.+forms.Given as goal

-- what is left has the same answer as all of them
abbrev pub invariant-are_targets_of-loop-part : goal.invariant-are_targets_of-loop-part
invariant-are_targets_of-loop-part l =
    are_targets_of (kind_in l.kind l.facts) (plain_all (drop l.part-index l.parts))
    ≡ are_targets_of (kind_in l.kind l.facts) (plain_all l.parts)
