use Rattle.std.proofs.Common.{◌≡◌, map, drop}
use Rattle.std.specs.List.{list_any}
use Rattle.rst_tree.specs.Modules.{PlainAssign, plain_assign}
use Rattle.rst_width.specs.Scopes.{names_of}
use Rattle.rst_items.specs.ItemRows.{is_bad_target}
use Rattle.rst_item_faults.specs.Kinds.{kind_in}
use Rattle.rst_item_faults.specs.declared.targets.Kind.TheVariants.{Wire}
use Rattle.rst_item_faults.proofs.targets.one_assign_bad.Given as goal

-- what is left has the same answer as all of them
abbrev pub invariant-loop-assign : goal.invariant-loop-assign
invariant-loop-assign l =
    list_any (λ (a : PlainAssign). is_bad_target (names_of l.names) (kind_in Wire l.facts) a.target) (map plain_assign (drop l.assign-index l.assigns))
    ≡ list_any (λ (a : PlainAssign). is_bad_target (names_of l.names) (kind_in Wire l.facts) a.target) (map plain_assign l.assigns)
