use Rattle.std.proofs.Common.{◌≡◌, map, drop}
use Rattle.std.specs.List.{list_any}
use Rattle.rst_net.specs.Statements.{plain_label}
use Rattle.rst_typing.specs.Typing.{matches}
use Rattle.rst_typing.proofs.labels.one_matches.Given as goal

abbrev pub invariant-loop-label : goal.invariant-loop-label
invariant-loop-label l = list_any (matches l.value) (map plain_label (drop l.label-index l.labels)) ≡ list_any (matches l.value) (map plain_label l.labels)
