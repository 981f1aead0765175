use Rattle.std.proofs.Common.{◌≡◌, drop}
use Rattle.rst_net.specs.Statements.{plain_stmts, plain_arms}
use Rattle.rst_drivers.specs.Drives.{sets_of_all, sets_of_arms}
use Rattle.rst_drivers.specs.Counts.{with_block, counted}
use Rattle.rst_drivers.proofs.drives.+counting.Given as goal

-- what is left completes the count
abbrev pub invariant-count_stmts-loop-part : goal.invariant-count_stmts-loop-part
invariant-count_stmts-loop-part l = counted (with_block l.number l.clocked) l.drives (sets_of_all (plain_stmts (drop l.part-index l.parts))) ≡ counted (with_block l.number l.clocked) l.initial.drives (sets_of_all (plain_stmts l.parts))

abbrev pub invariant-count_arms-loop-arm : goal.invariant-count_arms-loop-arm
invariant-count_arms-loop-arm l = counted (with_block l.number l.clocked) l.drives (sets_of_arms (plain_arms (drop l.arm-index l.arms))) ≡ counted (with_block l.number l.clocked) l.initial.drives (sets_of_arms (plain_arms l.arms))
