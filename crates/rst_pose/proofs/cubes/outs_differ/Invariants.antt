use Rattle.std.proofs.Common.{◌≡◌, drop}
use Rattle.rst_clause.specs.Literals.{AreLiterals}
use Rattle.rst_pose.specs.Posed.{outs_differ}
use Rattle.rst_pose.specs.Posing.{Grows}
use Rattle.rst_pose.proofs.Turns.{behind}
use Rattle.rst_pose.proofs.cubes.outs_differ.Given as goal

abbrev pub invariant-loop-i : goal.invariant-loop-i
invariant-loop-i l = record {
  gives : outs_differ l.lefts l.rights l.fn.dom.clauses.fixed
      ≡ behind l.found.items (outs_differ (drop l.i l.lefts) (drop l.i l.rights) l.dom.clauses.fixed);
  held : AreLiterals l.dom.clauses.vars l.found.items;
  grows : Grows l.i l.fn.dom l.dom;
}
