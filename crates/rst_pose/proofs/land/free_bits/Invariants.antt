use Rattle.std.proofs.Common.{◌≡◌, ◌≤◌, ◌+◌, ◌*◌, drop}
use Rattle.rst_gate.specs.Patterns.{free_bits}
use Rattle.rst_pose.proofs.land.free_bits.Given as goal

abbrev pub invariant-loop-cube : goal.invariant-loop-cube
invariant-loop-cube l = record {
  value : free_bits l.pattern ≡ l.count + free_bits (drop l.cube-index l.pattern);
  few : l.count ≤ 256 * l.cube-index;
}
