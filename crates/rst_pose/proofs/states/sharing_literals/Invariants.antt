use Rattle.std.proofs.Common.{◌≡◌, ◌≤◌, ◌+◌, ◌-◌, ◌++◌, length, drop}
use Rattle.rst_clause.specs.Literals.{AreLiterals}
use Rattle.rst_pair.specs.Queries.{open_count}
use Rattle.rst_pose.specs.Posed.{sharing_literals}
use Rattle.rst_pose.proofs.states.sharing_literals.Given as goal

abbrev pub invariant-loop-i : goal.invariant-loop-i
invariant-loop-i l = record {
  value : sharing_literals l.count l.marks l.left l.before
      ≡ l.lits.items ++ sharing_literals (l.count - l.i) (drop l.i l.marks) (drop l.i l.left) l.last;
  count : length l.lits.items ≡ l.i;
  held : AreLiterals l.last l.lits.items;
  least : l.before ≤ l.last;
  most : l.last ≤ l.before + l.i;
  open_so_far : l.before + open_count l.count l.marks ≡ l.last + open_count (l.count - l.i) (drop l.i l.marks);
}
