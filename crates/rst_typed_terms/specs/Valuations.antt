-- Bits of the signals that spell their numbers.
use Rattle.std.specs.Prelude.{ℕ, Bool, List, false}
use Rattle.rst_width.specs.Typed.{sized_as}
use Rattle.rst_width.specs.Values.{Valuation, word_at}
use Rattle.rst_terms.specs.Spelling.{Spells}

-- each signal's bits are as many as its width, and spell its number
abbrev pub AreSpelled : (ℕ → ℕ) → (ℕ → List Bool) → Valuation → Type 0
AreSpelled widths words signals = (i : ℕ) → Spells (words i) (word_at (sized_as (widths i) false) (signals i))
