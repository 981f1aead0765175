use Rattle.std.proofs.Common.{◌≡◌, drop}
use Rattle.rst_clause.specs.Literals.{IsLiteral}
use Rattle.rst_pose.specs.Posed.{in_cube}
use Rattle.rst_pose.specs.Posing.{Grows}
use Rattle.rst_pose.proofs.cubes.in_cube.Given as goal

abbrev pub invariant-loop-i : goal.invariant-loop-i
invariant-loop-i l = record {
  gives : in_cube l.fn.high l.cube l.values l.fn.dom.clauses.fixed ≡ in_cube l.so_far (drop l.i l.cube) (drop l.i l.values) l.dom.clauses.fixed;
  held : IsLiteral l.dom.clauses.vars l.so_far;
  grows : Grows l.i l.fn.dom l.dom;
}
