-- How many bits have a reset.
use Rattle.std.specs.Prelude.{ℕ, Bool, true, false, Option, Some, None}
use Rattle.rst_cycle.specs.Resets.{BitReset}
use Rattle.rst_statement_terms.specs.Weights.{bits_among}

abbrev pub is_reset : Option BitReset → Bool
is_reset None = false
is_reset (Some reset) = true

-- how many bits of so many signals have a reset
abbrev pub reset_count : (ℕ → ℕ → Option BitReset) → ℕ → ℕ
reset_count resets count = bits_among (λ i place. is_reset (resets i place)) count
