use Rattle.std.proofs.Common.{◌≡◌, ◌+◌, ◌-◌, ◌++◌, length}
use Rattle.rst_clause.specs.Literals.{AreLiterals}
use Rattle.rst_pose.specs.Posed.{free_literals}
use Rattle.rst_pose.proofs.states.free_literals.Given as goal

abbrev pub invariant-loop-i : goal.invariant-loop-i
invariant-loop-i l = record {
  value : free_literals l.before l.count ≡ l.lits.items ++ free_literals (l.before + l.i) (l.count - l.i);
  count : length l.lits.items ≡ l.i;
  held : AreLiterals (l.before + l.i) l.lits.items;
}
