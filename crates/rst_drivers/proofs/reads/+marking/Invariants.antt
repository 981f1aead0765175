use Rattle.std.proofs.Common.{drop}
use Rattle.rst_width.specs.Typed.{plain_all}
use Rattle.rst_drivers.specs.Drives.{one_reads}
use Rattle.rst_drivers.proofs.MarkLemmas.{Left}
use Rattle.rst_drivers.proofs.reads.+marking.Given as goal

-- what is left marks the rest
abbrev pub invariant-mark_all-loop-part : goal.invariant-mark_all-loop-part
invariant-mark_all-loop-part l = Left (λ i. one_reads i (plain_all (drop l.part-index l.parts))) (λ i. one_reads i (plain_all l.parts)) l.initial.marks l.marks
