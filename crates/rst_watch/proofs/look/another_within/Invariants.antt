use Rattle.rst_watch.specs.Looks.{AreFalseWithin}
use Rattle.rst_watch.proofs.look.another_within.Given as goal

abbrev pub invariant-loop-i : goal.invariant-loop-i
invariant-loop-i l = AreFalseWithin l.trail.lits l.clause l.other l.from l.i
