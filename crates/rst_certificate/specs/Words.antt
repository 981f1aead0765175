-- Words for the lines of a certificate.
use Rattle.std.specs.Prelude.{ℕ, ℤ, Bool, List, [], ◌∷◌, ◌++◌, map, if◌then◌else◌}
use Rattle.std.specs.List.{flat_map}
use Rattle.std.specs.Fmt.{decimal, signed_decimal}
use Rattle.rst_value.specs.declared.tern.Tern.{Tern}
use Rattle.rst_value.specs.declared.tern.Tern.TheVariants.{Zero, One, Unknown}

-- a line: its bytes and a newline
abbrev pub line : List ℕ → List ℕ
line bytes = bytes ++ 10 ∷ []

-- a word, a space and a number in decimal digits
abbrev pub counted : List ℕ → ℕ → List ℕ
counted word number = word ++ 32 ∷ decimal number

-- the digit 0 or 1 of a bit
abbrev pub digit : Bool → ℕ
digit bit = if bit then 49 else 48

-- bits as digits, the first to the left, behind `=`
abbrev pub bits_text : List Bool → List ℕ
bits_text bits = 61 ∷ map digit bits

-- the digit of a place: 0, 1, and `-` for either bit
abbrev pub place_digit : Tern → ℕ
place_digit Zero = 48
place_digit One = 49
place_digit Unknown = 45

-- a cube's places as digits, the first to the left, behind `=`
abbrev pub cube_text : List Tern → List ℕ
cube_text places = 61 ∷ map place_digit places

-- a signed number and a space
abbrev pub literal_text : ℤ → List ℕ
literal_text literal = signed_decimal literal ++ 32 ∷ []

-- a clause: its literals, then 0
abbrev pub clause_text : List ℤ → List ℕ
clause_text literals = flat_map literal_text literals ++ 48 ∷ []
