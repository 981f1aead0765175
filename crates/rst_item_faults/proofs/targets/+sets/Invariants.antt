use Rattle.std.proofs.Common.{◌≡◌, drop}
use Rattle.rst_tree.specs.Statements.{plain_stmts, plain_arms}
use Rattle.rst_width.specs.Scopes.{names_of}
use Rattle.rst_items.specs.ItemRows.{have_bad_set, arms_have_bad_set}
use Rattle.rst_item_faults.specs.Kinds.{kind_in}
use Rattle.rst_item_faults.proofs.targets.+sets.Given as goal

-- what is left has the same answer as all of them
abbrev pub invariant-have_bad_set-loop-part : goal.invariant-have_bad_set-loop-part
invariant-have_bad_set-loop-part l =
    have_bad_set (names_of l.names) (kind_in l.kind l.facts) (plain_stmts (drop l.part-index l.parts))
    ≡ have_bad_set (names_of l.names) (kind_in l.kind l.facts) (plain_stmts l.parts)

abbrev pub invariant-arms_have_bad_set-loop-arm : goal.invariant-arms_have_bad_set-loop-arm
invariant-arms_have_bad_set-loop-arm l =
    arms_have_bad_set (names_of l.names) (kind_in l.kind l.facts) (plain_arms (drop l.arm-index l.arms))
    ≡ arms_have_bad_set (names_of l.names) (kind_in l.kind l.facts) (plain_arms l.arms)
