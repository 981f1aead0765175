use Rattle.std.proofs.Common.{◌≡◌, ◌++◌, drop}
use Rattle.rst_net.specs.Statements.{plain_stmts, plain_arms}
use Rattle.rst_blocks.specs.Reads.{reads_in_all, reads_in_arms}
use Rattle.rst_blocks.proofs.reads.+stmt_reads.Given as goal

-- with what is left it is all of it
abbrev pub invariant-read_in_all-loop-part : goal.invariant-read_in_all-loop-part
invariant-read_in_all-loop-part l = l.slices.items ++ reads_in_all (plain_stmts (drop l.part-index l.parts)) ≡ l.initial.slices.items ++ reads_in_all (plain_stmts l.parts)

abbrev pub invariant-read_in_arms-loop-arm : goal.invariant-read_in_arms-loop-arm
invariant-read_in_arms-loop-arm l = l.slices.items ++ reads_in_arms (plain_arms (drop l.arm-index l.arms)) ≡ l.initial.slices.items ++ reads_in_arms (plain_arms l.arms)
