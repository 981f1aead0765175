use Rattle.std.proofs.Common.{◌≡◌, ℕ, ◌<◌, true}
use Rattle.rst_order.specs.Walks.{stands}
use Rattle.rst_order.proofs.marks.first_missing.Given as goal

abbrev pub invariant-loop-vertex : goal.invariant-loop-vertex
invariant-loop-vertex l = (k : ℕ) → k < l.vertex → stands l.marks k ≡ true
