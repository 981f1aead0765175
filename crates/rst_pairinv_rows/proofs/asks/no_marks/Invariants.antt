use Rattle.std.proofs.Common.{◌≡◌, ℕ, true, false, length}
use Rattle.std.specs.Prelude.{slice_index_or}
use Rattle.rst_pairinv_rows.proofs.asks.no_marks.Given as goal

abbrev pub invariant-loop : goal.invariant-loop
invariant-loop l = record {
  count : length l.bits ≡ l.counter;
  none : (i : ℕ) → slice_index_or l.bits i false ≡ true → ⊥;
}
