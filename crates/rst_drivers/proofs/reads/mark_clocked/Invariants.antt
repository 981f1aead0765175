use Rattle.std.proofs.Common.{drop, map}
use Rattle.std.specs.List.{list_any}
use Rattle.rst_net.specs.Units.{plain_process}
use Rattle.rst_drivers.specs.Drives.{process_reads}
use Rattle.rst_drivers.proofs.MarkLemmas.{Left}
use Rattle.rst_drivers.proofs.reads.mark_clocked.Given as goal

-- what is left marks the rest
abbrev pub invariant-loop-process : goal.invariant-loop-process
invariant-loop-process l = Left (λ i. list_any (process_reads i) (map plain_process (drop l.process-index l.clocked))) (λ i. list_any (process_reads i) (map plain_process l.clocked)) l.initial.marks l.marks
