use Rattle.std.proofs.Common.{◌≡◌, ◌++◌, drop}
use Rattle.rst_pair.specs.Aims.{contradicts_all}
use Rattle.rst_pair.specs.Hops.{cubes_of}
use Rattle.rst_widen.proofs.aim.outside.Given as goal

abbrev pub invariant-loop-hop : goal.invariant-loop-hop
invariant-loop-hop l =
    contradicts_all (cubes_of l.hops) (l.left ++ l.right) ≡ contradicts_all (cubes_of (drop l.hop-index l.hops)) (l.left ++ l.right)
