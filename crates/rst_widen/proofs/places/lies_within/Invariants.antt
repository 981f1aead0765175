use Rattle.std.proofs.Common.{◌≡◌, drop}
use Rattle.rst_pair.specs.Aims.{is_within}
use Rattle.rst_widen.proofs.places.lies_within.Given as goal

abbrev pub invariant-loop-i : goal.invariant-loop-i
invariant-loop-i l = is_within l.xs l.ys ≡ is_within (drop l.i l.xs) (drop l.i l.ys)
