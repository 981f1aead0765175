use Rattle.std.proofs.Common.{◌≡◌, ℕ, ◌<◌, ◌≤◌, true, get_or}
use Rattle.rst_order.specs.Walks.{stands}
use Rattle.rst_order.proofs.progress.standing.Given as goal

abbrev pub invariant-loop-i : goal.invariant-loop-i
invariant-loop-i l = (j : ℕ) → l.from ≤ j → j < l.i → stands l.placed (get_or l.predecessors j 0) ≡ true
