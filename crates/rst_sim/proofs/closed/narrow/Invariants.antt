use Rattle.std.proofs.Common.{◌≡◌, take}
use Rattle.rst_sim.specs.Supports.{narrowed}
use Rattle.rst_sim.proofs.closed.narrow.Given as goal

abbrev pub invariant-loop-i : goal.invariant-loop-i
invariant-loop-i l = l.smaller ≡ narrowed (take l.i l.set) (take l.i l.other)
