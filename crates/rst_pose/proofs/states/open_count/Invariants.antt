use Rattle.std.proofs.Common.{◌≡◌, ◌≤◌, ◌+◌, ◌-◌, drop}
use Rattle.rst_pair.specs.Queries.{open_count}
use Rattle.rst_pose.proofs.states.open_count.Given as goal

abbrev pub invariant-loop-i : goal.invariant-loop-i
invariant-loop-i l = record {
  value : open_count l.count l.marks ≡ l.open + open_count (l.count - l.i) (drop l.i l.marks);
  most : l.open ≤ l.i;
}
