use Rattle.std.proofs.Common.{◌≡◌, drop}
use Rattle.rst_net.specs.Statements.{plain_stmts, plain_arms}
use Rattle.rst_blocks.specs.Surely.{early_all, early_arms}
use Rattle.rst_blocks.proofs.surely.+early.Given as goal

-- what is left reads the bit early where all of them do
abbrev pub invariant-early_all-loop-part : goal.invariant-early_all-loop-part
invariant-early_all-loop-part l = early_all l.bit.signal l.bit.place (plain_stmts (drop l.part-index l.parts)) l.surely_set ≡ early_all l.bit.signal l.bit.place (plain_stmts l.parts) l.before

abbrev pub invariant-early_arms-loop-arm : goal.invariant-early_arms-loop-arm
invariant-early_arms-loop-arm l = early_arms l.bit.signal l.bit.place (plain_arms (drop l.arm-index l.arms)) l.before ≡ early_arms l.bit.signal l.bit.place (plain_arms l.arms) l.before
