use Rattle.std.proofs.Common.{drop, nat_eq}
use Rattle.std.specs.List.{list_any}
use Rattle.rst_drivers.proofs.MarkLemmas.{Left}
use Rattle.rst_drivers.proofs.flat_rows.mark_outputs.Given as goal

-- what is left marks the rest
abbrev pub invariant-loop-output : goal.invariant-loop-output
invariant-loop-output l = Left (λ i. list_any (λ o. nat_eq o i) (drop l.output-index l.outputs)) (λ i. list_any (λ o. nat_eq o i) l.outputs) l.initial.marks l.marks
