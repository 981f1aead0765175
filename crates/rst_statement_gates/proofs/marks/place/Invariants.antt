use Rattle.std.proofs.Common.{◌≡◌, ℕ, ◌-◌, ◌≤◌, ◌<◌, length}
use Rattle.rst_statement_gates.specs.Marks.{signal_at}
use Rattle.rst_statement_gates.proofs.marks.place.Given as goal

abbrev pub invariant-loop-low : goal.invariant-loop-low
invariant-loop-low l = record {
  order : l.low ≤ l.high;
  within : l.high ≤ length l.marks;
  below : (k : ℕ) → k < l.low → signal_at l.marks k < l.signal;
  above : (k : ℕ) → l.high ≤ k → k < length l.marks → l.signal ≤ signal_at l.marks k;
}

abbrev pub decreases-loop-low : goal.decreases-loop-low
decreases-loop-low l = l.high - l.low
