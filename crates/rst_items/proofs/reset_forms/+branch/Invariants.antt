use Rattle.std.proofs.Common.{◌≡◌, drop}
use Rattle.rst_tree.specs.Statements.{plain_stmts}
use Rattle.rst_names.specs.Tables.{is_signal_in}
use Rattle.rst_items.specs.ResetForms.{are_reset_branches}
use Rattle.rst_items.proofs.reset_forms.+branch.Given as goal

-- what is left has the same answer as all of them
abbrev pub invariant-are_reset_branches-loop-part : goal.invariant-are_reset_branches-loop-part
invariant-are_reset_branches-loop-part l =
    are_reset_branches (is_signal_in l.facts) (plain_stmts (drop l.part-index l.parts)) ≡ are_reset_branches (is_signal_in l.facts) (plain_stmts l.parts)
