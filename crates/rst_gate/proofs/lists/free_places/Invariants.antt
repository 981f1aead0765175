use Rattle.std.proofs.Common.{◌≡◌, ◌≤◌, ◌+◌, drop}
use Rattle.rst_gate.specs.Patterns.{free_count}
use Rattle.rst_gate.proofs.lists.free_places.Given as goal

abbrev pub invariant-loop-place : goal.invariant-loop-place
invariant-loop-place l = record {
  few : l.count ≤ l.place-index;
  so_far : free_count l.cube ≡ l.count + free_count (drop l.place-index l.cube);
}
