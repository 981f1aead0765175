use Rattle.std.proofs.Common.{◌≡◌, ◌≤◌, ◌+◌, ◌++◌, drop, length}
use Rattle.rst_gate.specs.Patterns.{free_count, filled_places}
use Rattle.rst_gate.proofs.pattern.fill.Given as goal

abbrev pub invariant-loop-place : goal.invariant-loop-place
invariant-loop-place l = record {
  room : l.at + free_count (drop l.place-index l.places) ≤ length l.free;
  so_far : filled_places l.places (drop l.from l.free) ≡ l.bits ++ filled_places (drop l.place-index l.places) (drop l.at l.free);
}
