use Rattle.std.proofs.Common.{take}
use Rattle.rst_watch.specs.Looks.{AreFalseBut}
use Rattle.rst_watch.proofs.look.look.Given as goal

abbrev pub invariant-loop-i : goal.invariant-loop-i
invariant-loop-i l = AreFalseBut l.trail.lits (take l.i l.clause) l.other
