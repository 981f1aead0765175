-- Sets of signals as one mark for each signal.
use Rattle.std.specs.Prelude.{◌≡◌, ℕ, ◌<◌, Bool, false, ◌||◌, List, length, slice_index_or}

-- whether a signal is marked
abbrev pub stands : List Bool → ℕ → Bool
stands marks signal = slice_index_or marks signal false

-- besides those that were marked before, the signals that pass the test are marked
pub record Marks (test : ℕ → Bool) (old new : List Bool) : Type 0 where
  pub count : length new ≡ length old
  pub each : (i : ℕ) → i < length old → stands new i ≡ (stands old i || test i)
