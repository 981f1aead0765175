use Rattle.std.proofs.Common.{◌≡◌, ◌≤◌}
use Rattle.rst_weight.specs.Counts.{places_below}
use Rattle.rst_weight.specs.Plain.{is_fresh}
use Rattle.rst_weight.proofs.counts.fresh.Given as goal

abbrev pub invariant-loop-place : goal.invariant-loop-place
invariant-loop-place l = (l.sum ≤ l.place) × (l.sum ≡ places_below (is_fresh l.slice l.others) l.place)
