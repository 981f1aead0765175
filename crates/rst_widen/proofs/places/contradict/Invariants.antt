use Rattle.std.proofs.Common.{◌≡◌, drop}
use Rattle.rst_pair.specs.Aims.{contradicts}
use Rattle.rst_widen.proofs.places.contradict.Given as goal

abbrev pub invariant-loop-i : goal.invariant-loop-i
invariant-loop-i l = contradicts l.xs l.ys ≡ contradicts (drop l.i l.xs) (drop l.i l.ys)
