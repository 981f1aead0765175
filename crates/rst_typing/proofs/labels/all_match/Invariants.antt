use Rattle.std.proofs.Common.{◌≡◌, true}
use Rattle.std.specs.List.{list_any}
use Rattle.rst_typing.specs.Typing.{all_below, matches, brought_value}
use Rattle.rst_typing.specs.Refusals.{labels_in}
use Rattle.rst_typing.proofs.labels.all_match.Given as goal

-- each value below this one matches a label
abbrev pub invariant-loop-value : goal.invariant-loop-value
invariant-loop-value l = all_below l.value (λ v. list_any (matches (brought_value l.shape l.width v)) (labels_in l.arms)) ≡ true
