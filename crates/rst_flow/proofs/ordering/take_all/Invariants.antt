use Rattle.std.proofs.Common.{◌≡◌, ℕ, ◌<◌, ◌≤◌, length, take, map, get_or, Some, None}
use Rattle.rst_flow.proofs.ordering.take_all.Given as goal

-- those that were made are the first, and those that come are still left
abbrev pub invariant-loop-number : goal.invariant-loop-number
invariant-loop-number l = record {
  made : map Some l.made.items ≡ map (λ v. get_or l.initial.left.items v None) (take l.number-index l.order);
  still : (k : ℕ) → l.number-index ≤ k → k < length l.order → get_or l.left.items (get_or l.order k 0) None ≡ get_or l.initial.left.items (get_or l.order k 0) None;
  same_length : length l.left.items ≡ length l.initial.left.items;
}
