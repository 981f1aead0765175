use Rattle.std.proofs.Common.{take}
use Rattle.std.specs.List.{AllZip}
use Rattle.rst_value.specs.Terns.{StandsFor}
use Rattle.rst_early.proofs.apart.fills.Given as goal

abbrev pub invariant-loop-i : goal.invariant-loop-i
invariant-loop-i l = AllZip (AllZip StandsFor) (take l.i l.pattern) (take l.i l.word)
