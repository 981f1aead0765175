use Rattle.std.proofs.Common.{◌≡◌, take}
use Rattle.rst_landing.proofs.asking.copied.Given as goal

abbrev pub invariant-loop-cube : goal.invariant-loop-cube
invariant-loop-cube l = l.pattern ≡ take l.cube-index l.cycles
