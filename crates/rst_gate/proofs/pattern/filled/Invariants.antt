use Rattle.std.proofs.Common.{◌≡◌, ◌≤◌, ◌+◌, ◌++◌, drop, length}
use Rattle.rst_gate.specs.Patterns.{free_bits, filled}
use Rattle.rst_gate.proofs.pattern.filled.Given as goal

abbrev pub invariant-loop-cube : goal.invariant-loop-cube
invariant-loop-cube l = record {
  room : l.at + free_bits (drop l.cube-index l.pattern) ≤ length l.free;
  so_far : filled l.pattern l.free ≡ l.word ++ filled (drop l.cube-index l.pattern) (drop l.at l.free);
}
