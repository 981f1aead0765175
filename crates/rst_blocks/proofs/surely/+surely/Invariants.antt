use Rattle.std.proofs.Common.{◌≡◌, drop}
use Rattle.rst_net.specs.Statements.{plain_stmts, plain_arms}
use Rattle.rst_blocks.specs.Surely.{surely_all, surely_arms}
use Rattle.rst_blocks.proofs.surely.+surely.Given as goal

-- what is left makes of what is surely set so far what all make of what was before
abbrev pub invariant-surely_all-loop-part : goal.invariant-surely_all-loop-part
invariant-surely_all-loop-part l = surely_all l.bit.signal l.bit.place (plain_stmts (drop l.part-index l.parts)) l.surely_set ≡ surely_all l.bit.signal l.bit.place (plain_stmts l.parts) l.before

abbrev pub invariant-surely_arms-loop-arm : goal.invariant-surely_arms-loop-arm
invariant-surely_arms-loop-arm l = surely_arms l.bit.signal l.bit.place (plain_arms (drop l.arm-index l.arms)) l.before ≡ surely_arms l.bit.signal l.bit.place (plain_arms l.arms) l.before
