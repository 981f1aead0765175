-- How many bits statements set.
use Rattle.std.specs.Prelude.{ℕ, zero, suc, ◌+◌, Bool}
use Rattle.rst_net.specs.Statements.{Statement}
use Rattle.rst_cycle.specs.Bits.{digit}
use Rattle.rst_cycle.specs.Drivers.{sets}

-- how many places below a number pass a test
unfoldable pub places_below : (ℕ → Bool) → ℕ → ℕ
places_below test zero = 0
places_below test (suc place) = digit (test place) + places_below test place

-- how many bits of the signals below a number pass a test; no signal has more than 64
unfoldable pub bits_among : (ℕ → ℕ → Bool) → ℕ → ℕ
bits_among test zero = 0
bits_among test (suc i) = places_below (test i) 64 + bits_among test i

-- how many bits a statement sets anywhere, of this many signals
abbrev pub bits_set : ℕ → Statement → ℕ
bits_set count statement = bits_among (sets statement) count
