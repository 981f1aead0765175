use Rattle.std.proofs.Common.{◌≡◌, drop, map}
use Rattle.rst_net.specs.Statements.{plain_label}
use Rattle.rst_cycle.specs.Drivers.{target_has}
use Rattle.rst_blocks.specs.Reads.{label_reads}
use Rattle.rst_blocks.proofs.surely.labels_read.Given as goal

abbrev pub invariant-loop-label : goal.invariant-loop-label
invariant-loop-label l = target_has (label_reads (map plain_label (drop l.label-index l.labels))) l.bit.signal l.bit.place ≡ target_has (label_reads (map plain_label l.labels)) l.bit.signal l.bit.place
