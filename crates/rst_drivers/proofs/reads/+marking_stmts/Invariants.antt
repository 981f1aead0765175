use Rattle.std.proofs.Common.{drop}
use Rattle.rst_net.specs.Statements.{plain_stmts, plain_arms}
use Rattle.rst_drivers.specs.Drives.{stmts_read, arms_read}
use Rattle.rst_drivers.proofs.MarkLemmas.{Left}
use Rattle.rst_drivers.proofs.reads.+marking_stmts.Given as goal

-- what is left marks the rest
abbrev pub invariant-mark_stmts-loop-part : goal.invariant-mark_stmts-loop-part
invariant-mark_stmts-loop-part l = Left (λ i. stmts_read i (plain_stmts (drop l.part-index l.parts))) (λ i. stmts_read i (plain_stmts l.parts)) l.initial.marks l.marks

abbrev pub invariant-mark_arms-loop-arm : goal.invariant-mark_arms-loop-arm
invariant-mark_arms-loop-arm l = Left (λ i. arms_read i (plain_arms (drop l.arm-index l.arms))) (λ i. arms_read i (plain_arms l.arms)) l.initial.marks l.marks
