use Rattle.std.proofs.Common.{◌≡◌, drop}
use Rattle.rst_net.specs.Statements.{plain_stmts, plain_arms}
use Rattle.rst_blocks.specs.Sets.{first_set_in, first_set_in_arms}
use Rattle.rst_blocks.proofs.rows.+kinds.Given as goal

-- the first of what is left is the first of all
abbrev pub invariant-first_set_in-loop-part : goal.invariant-first_set_in-loop-part
invariant-first_set_in-loop-part l = first_set_in l.blocking (plain_stmts (drop l.part-index l.parts)) ≡ first_set_in l.blocking (plain_stmts l.parts)

abbrev pub invariant-first_set_in_arms-loop-arm : goal.invariant-first_set_in_arms-loop-arm
invariant-first_set_in_arms-loop-arm l = first_set_in_arms l.blocking (plain_arms (drop l.arm-index l.arms)) ≡ first_set_in_arms l.blocking (plain_arms l.arms)
