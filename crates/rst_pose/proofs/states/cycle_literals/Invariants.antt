use Rattle.std.proofs.Common.{◌≡◌, ◌≤◌, ◌+◌, ◌++◌, ℕ, length, drop}
use Rattle.rst_clause.specs.Literals.{IsLiteral, AreLiterals}
use Rattle.rst_gate.specs.Patterns.{free_count}
use Rattle.rst_pose.specs.Posed.{cycle_literals}
use Rattle.rst_pose.proofs.states.cycle_literals.Given as goal

abbrev pub invariant-loop-place : goal.invariant-loop-place
invariant-loop-place l = record {
  value : cycle_literals l.low l.places l.before ≡ l.lits.items ++ cycle_literals l.low (drop l.place-index l.places) l.last;
  count : length l.lits.items ≡ l.place-index;
  held : (n : ℕ) → l.last ≤ n → IsLiteral n l.low → AreLiterals n l.lits.items;
  free : l.before + free_count l.places ≡ l.last + free_count (drop l.place-index l.places);
}
