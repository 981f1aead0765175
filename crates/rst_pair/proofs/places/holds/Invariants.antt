use Rattle.std.proofs.Common.{take}
use Rattle.std.specs.List.{AllZip}
use Rattle.rst_value.specs.Terns.{StandsFor}
use Rattle.rst_pair.proofs.places.holds.Given as goal

abbrev pub invariant-loop-i : goal.invariant-loop-i
invariant-loop-i l = AllZip StandsFor (take l.i l.xs) (take l.i l.bits)
