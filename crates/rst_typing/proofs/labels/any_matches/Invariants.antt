use Rattle.std.proofs.Common.{◌≡◌, drop}
use Rattle.std.specs.List.{list_any}
use Rattle.rst_typing.specs.Typing.{matches}
use Rattle.rst_typing.specs.Refusals.{labels_in}
use Rattle.rst_typing.proofs.labels.any_matches.Given as goal

abbrev pub invariant-loop-arm : goal.invariant-loop-arm
invariant-loop-arm l = list_any (matches l.value) (labels_in (drop l.arm-index l.arms)) ≡ list_any (matches l.value) (labels_in l.arms)
