use Rattle.std.proofs.Common.{◌≡◌, Bool, List, length}
use Rattle.rst_gate.specs.ClosedSets.{IsWithin, IsClosedSet}
use Rattle.rst_sim.specs.Supports.{members}
use Rattle.rst_sim.proofs.closed.closed_equal.Given as goal

abbrev pub invariant-narrowing : goal.invariant-narrowing
invariant-narrowing l = record {
  is_state : length l.set ≡ l.gates.states;
  within : IsWithin l.set l.known;
  largest : (other : List Bool) → IsWithin other l.known → IsClosedSet l.gates other → IsWithin other l.set;
}

abbrev pub decreases-narrowing : goal.decreases-narrowing
decreases-narrowing l = members l.set
