use Rattle.std.proofs.Common.{◌≡◌, ◌*◌, drop}
use Rattle.rst_clause.specs.Literals.{IsLiteral}
use Rattle.rst_pair.specs.Hops.{cubes_of}
use Rattle.rst_pose.specs.Posed.{in_none}
use Rattle.rst_pose.specs.Posing.{Grows}
use Rattle.rst_pose.proofs.cubes.in_none.Given as goal

abbrev pub invariant-loop-hop : goal.invariant-loop-hop
invariant-loop-hop l = record {
  gives : in_none l.high l.high (cubes_of l.hops) l.values l.fn.dom.clauses.fixed
      ≡ in_none l.high l.so_far (cubes_of (drop l.hop-index l.hops)) l.values l.dom.clauses.fixed;
  held : IsLiteral l.dom.clauses.vars l.so_far;
  grows : Grows (1025 * l.hop-index) l.fn.dom l.dom;
}
