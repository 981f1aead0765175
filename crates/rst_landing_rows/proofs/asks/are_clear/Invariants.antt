use Rattle.std.proofs.Common.{◌≡◌, ℕ, ◌<◌, true, false}
use Rattle.std.specs.Prelude.{slice_index_or}
use Rattle.rst_landing_rows.proofs.asks.are_clear.Given as goal

abbrev pub invariant-loop-marked : goal.invariant-loop-marked
invariant-loop-marked l = (j : ℕ) → j < l.marked-index → slice_index_or l.marks j false ≡ true → ⊥
