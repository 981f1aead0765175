use Rattle.std.proofs.Common.{◌≡◌, length}
use Rattle.rst_watch.proofs.state.empty_lists.Given as goal

abbrev pub invariant-loop : goal.invariant-loop
invariant-loop l = length l.lists.items ≡ l.counter
