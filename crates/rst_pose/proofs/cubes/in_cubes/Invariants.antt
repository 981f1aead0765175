use Rattle.std.proofs.Common.{◌≡◌, ◌*◌, drop}
use Rattle.rst_clause.specs.Literals.{AreLiterals}
use Rattle.rst_pair.specs.Hops.{cubes_of}
use Rattle.rst_pose.specs.Posed.{in_cubes}
use Rattle.rst_pose.specs.Posing.{Grows}
use Rattle.rst_pose.proofs.Turns.{behind}
use Rattle.rst_pose.proofs.cubes.in_cubes.Given as goal

abbrev pub invariant-loop-hop : goal.invariant-loop-hop
invariant-loop-hop l = record {
  gives : in_cubes l.high (cubes_of l.hops) l.values l.fn.dom.clauses.fixed
      ≡ behind l.found.items (in_cubes l.high (cubes_of (drop l.hop-index l.hops)) l.values l.dom.clauses.fixed);
  held : AreLiterals l.dom.clauses.vars l.found.items;
  grows : Grows (1024 * l.hop-index) l.fn.dom l.dom;
}
