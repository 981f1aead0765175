-- Patterns of inputs: words of which some places are free bits. Each cycle is a cube over the inputs, whose known places
-- are bits of the pattern and whose X places are free.
use Rattle.std.specs.Prelude.{◌≡◌, ℕ, ◌+◌, Bool, true, false, List, [], ◌∷◌, length, map, drop, slice_index_or}
use Rattle.std.specs.List.{AllByRecursion, AllZip}
use Rattle.rst_value.specs.declared.tern.Tern.{Tern}
use Rattle.rst_value.specs.declared.tern.Tern.TheVariants.{Zero, One, Unknown}
use Rattle.rst_value.specs.Terns.{known, StandsFor}
use Rattle.rst_gate.specs.Machine.{Machine, Signs}

abbrev pub IsPattern : Machine → List (List Tern) → Type 0
IsPattern m pattern = AllByRecursion (λ places. length places ≡ m.inputs) pattern

-- a filling is a word of the pattern's length that agrees with each known place
abbrev pub IsFilling : List (List Tern) → List (List Bool) → Type 0
IsFilling pattern word = AllZip (AllZip StandsFor) pattern word

-- the pattern is an essential reset sequence whatever its free bits are: both states take the same filling
abbrev pub PatternSigns : Machine → List (List Tern) → Type 0
PatternSigns m pattern = (word : List (List Bool)) → IsFilling pattern word → Signs m word

-- a word as the pattern without free bits
abbrev pub known_pattern : List (List Bool) → List (List Tern)
known_pattern word = map (map known) word

-- how many free bits a place is: one for X
abbrev pub free_of : Tern → ℕ
free_of Zero = 0
free_of One = 0
free_of Unknown = 1

abbrev pub free_count : List Tern → ℕ
free_count [] = 0
free_count (place ∷ places) = free_of place + free_count places

-- how many free bits a pattern has
abbrev pub free_bits : List (List Tern) → ℕ
free_bits [] = 0
free_bits (places ∷ pattern) = free_count places + free_bits pattern

-- the bit of a place: its own, or the first free one
abbrev pub filled_bit : Tern → List Bool → Bool
filled_bit Zero free = false
filled_bit One free = true
filled_bit Unknown free = slice_index_or free 0 false

abbrev pub filled_places : List Tern → List Bool → List Bool
filled_places [] free = []
filled_places (place ∷ places) free = filled_bit place free ∷ filled_places places (drop (free_of place) free)

-- the filling by free bits: they are taken cycle by cycle, and in each cycle from the first place on
abbrev pub filled : List (List Tern) → List Bool → List (List Bool)
filled [] free = []
filled (places ∷ pattern) free = filled_places places free ∷ filled pattern (drop (free_count places) free)
