use Rattle.std.proofs.Common.{drop, map}
use Rattle.std.specs.List.{list_any}
use Rattle.rst_net.specs.Units.{plain_driver}
use Rattle.rst_drivers.specs.Drives.{unit_reads}
use Rattle.rst_drivers.proofs.MarkLemmas.{Left}
use Rattle.rst_drivers.proofs.reads.mark_units.Given as goal

-- what is left marks the rest
abbrev pub invariant-loop-unit : goal.invariant-loop-unit
invariant-loop-unit l = Left (λ i. list_any (unit_reads i) (map plain_driver (drop l.unit-index l.units))) (λ i. list_any (unit_reads i) (map plain_driver l.units)) l.initial.marks l.marks
