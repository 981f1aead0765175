use Rattle.std.proofs.Common.{drop, map}
use Rattle.rst_net.specs.Statements.{plain_label}
use Rattle.rst_drivers.specs.Drives.{one_label_reads}
use Rattle.rst_drivers.proofs.MarkLemmas.{Left}
use Rattle.rst_drivers.proofs.reads.mark_labels.Given as goal

-- what is left marks the rest
abbrev pub invariant-loop-label : goal.invariant-loop-label
invariant-loop-label l = Left (λ i. one_label_reads i (map plain_label (drop l.label-index l.labels))) (λ i. one_label_reads i (map plain_label l.labels)) l.initial.marks l.marks
