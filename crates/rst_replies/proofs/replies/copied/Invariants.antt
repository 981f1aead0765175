use Rattle.std.proofs.Common.{◌≡◌, take}
use Rattle.rst_replies.proofs.replies.copied.Given as goal

abbrev pub invariant-loop-cube : goal.invariant-loop-cube
invariant-loop-cube l = l.own ≡ take l.cube-index l.cubes
