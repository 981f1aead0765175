use Rattle.std.proofs.Common.{◌≡◌, take}
use Rattle.rst_sim.specs.Supports.{members}
use Rattle.rst_sim.proofs.closed.count.Given as goal

abbrev pub invariant-loop-member : goal.invariant-loop-member
invariant-loop-member l = l.total ≡ members (take l.member-index l.set)
