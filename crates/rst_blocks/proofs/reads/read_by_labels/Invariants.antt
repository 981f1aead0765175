use Rattle.std.proofs.Common.{◌≡◌, ◌++◌, drop, map}
use Rattle.rst_net.specs.Statements.{plain_label}
use Rattle.rst_blocks.specs.Reads.{label_reads}
use Rattle.rst_blocks.proofs.reads.read_by_labels.Given as goal

abbrev pub invariant-loop-label : goal.invariant-loop-label
invariant-loop-label l = l.slices.items ++ label_reads (map plain_label (drop l.label-index l.labels)) ≡ l.initial.slices.items ++ label_reads (map plain_label l.labels)
