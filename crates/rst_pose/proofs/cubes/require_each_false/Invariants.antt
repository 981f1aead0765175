use Rattle.std.proofs.Common.{take}
use Rattle.rst_pose.specs.Posed.{each_false}
use Rattle.rst_pose.specs.Posing.{Requires}
use Rattle.rst_pose.proofs.cubes.require_each_false.Given as goal

abbrev pub invariant-loop-i : goal.invariant-loop-i
invariant-loop-i l = Requires (each_false (take l.i l.lits)) l.fn.dom l.dom
