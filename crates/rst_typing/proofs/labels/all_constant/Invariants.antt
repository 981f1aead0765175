use Rattle.std.proofs.Common.{◌≡◌, not, drop}
use Rattle.std.specs.List.{list_all}
use Rattle.rst_width.specs.Typed.{names_signal}
use Rattle.rst_typing.specs.Refusals.{labels_in}
use Rattle.rst_typing.proofs.labels.all_constant.Given as goal

abbrev pub invariant-loop-arm : goal.invariant-loop-arm
invariant-loop-arm l = list_all (λ t. not (names_signal t.value)) (labels_in (drop l.arm-index l.arms)) ≡ list_all (λ t. not (names_signal t.value)) (labels_in l.arms)
