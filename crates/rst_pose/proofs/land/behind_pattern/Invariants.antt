use Rattle.std.proofs.Common.{◌≡◌, ◌+◌, ◌*◌, length, drop}
use Rattle.rst_clause.specs.Literals.{AreLiterals}
use Rattle.rst_gate.specs.Patterns.{free_bits}
use Rattle.rst_pose.specs.Posed.{free_literals, pattern_literals}
use Rattle.rst_pose.specs.Posing.{Grows}
use Rattle.rst_pose.proofs.land.behind_pattern.Given as goal

abbrev pub invariant-loop-cube : goal.invariant-loop-cube
invariant-loop-cube l = record {
  gives : pattern_literals l.pair l.low l.pattern (l.pair.left.states + l.pair.right.states) (free_literals 0 l.pair.left.states)
      (free_literals l.pair.left.states l.pair.right.states) l.fn.dom.clauses.fixed
      ≡ pattern_literals l.pair l.low (drop l.cube-index l.pattern) l.before l.left.items l.right.items l.dom.clauses.fixed;
  each_left : length l.left.items ≡ l.pair.left.states;
  each_right : length l.right.items ≡ l.pair.right.states;
  left : AreLiterals l.dom.clauses.vars l.left.items;
  right : AreLiterals l.dom.clauses.vars l.right.items;
  free : l.pair.left.states + l.pair.right.states + free_bits l.pattern ≡ l.before + free_bits (drop l.cube-index l.pattern);
  grows : Grows (132610 * l.cube-index) l.fn.dom l.dom;
}
