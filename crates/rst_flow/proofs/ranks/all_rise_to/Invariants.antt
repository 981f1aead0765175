use Rattle.std.proofs.Common.{◌≡◌, ℕ, ◌<◌, true, get_or}
use Rattle.rst_flow.specs.Ranking.{rises}
use Rattle.rst_flow.proofs.ranks.all_rise_to.Given as goal

abbrev pub invariant-loop-before : goal.invariant-loop-before
invariant-loop-before l = (k : ℕ) → k < l.before-index → rises l.ranks.rank.items l.ranks.alone.items (get_or l.predecessors k 0) l.unit ≡ true
