use Rattle.std.proofs.Common.{◌≡◌, not, map, drop}
use Rattle.std.specs.List.{list_all}
use Rattle.rst_width.specs.Typed.{names_signal}
use Rattle.rst_net.specs.Statements.{plain_label}
use Rattle.rst_typing.proofs.labels.are_constant.Given as goal

abbrev pub invariant-loop-label : goal.invariant-loop-label
invariant-loop-label l = list_all (λ t. not (names_signal t.value)) (map plain_label (drop l.label-index l.labels)) ≡ list_all (λ t. not (names_signal t.value)) (map plain_label l.labels)
