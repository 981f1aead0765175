use Rattle.std.proofs.Common.{◌≡◌, ◌+◌, length, drop}
use Rattle.std.specs.List.{sum_by}
use Rattle.rst_elab.proofs.flat.signal_count.Given as goal

-- what is counted and what is left are all signals
abbrev pub invariant-loop-located : goal.invariant-loop-located
invariant-loop-located l = l.count + sum_by (λ x. length x.shapes.items) (drop l.located-index l.all) ≡ sum_by (λ x. length x.shapes.items) l.all
