-- Classes of bytes, by their characters.
use Rattle.std.specs.Prelude.{ℕ, ◌==◌, Bool, ◌||◌, ◌&&◌, nat_le, List, [], ◌∷◌, IsTrue}
use Prim.Native.Char.{Char, code}

-- the byte of this character or of one between it and another
abbrev pub is_between : Char → Char → ℕ → Bool
is_between low high b = nat_le (code low) b && nat_le b (code high)

-- space, tab and newline
abbrev pub is_blank : ℕ → Bool
is_blank b = (b == code " ") || (b == code "\t") || (b == code "\n")

-- white space: space, tab, newline, carriage return and form feed
abbrev pub is_space : ℕ → Bool
is_space b = (b == code " ") || (b == code "\t") || (b == code "\n") || (b == code "\r") || (b == code "\u{c}")

abbrev pub is_letter : ℕ → Bool
is_letter b = is_between "A" "Z" b || is_between "a" "z" b

abbrev pub is_digit : ℕ → Bool
is_digit b = is_between "0" "9" b

-- a letter or _ begins an identifier
abbrev pub is_name_start : ℕ → Bool
is_name_start b = is_letter b || (b == code "_")

-- letters, digits, _ and $ go on with it
abbrev pub is_name_byte : ℕ → Bool
is_name_byte b = is_letter b || is_digit b || (b == code "_") || (b == code "$")

-- digits and _ go on with a decimal number
abbrev pub is_decimal_byte : ℕ → Bool
is_decimal_byte b = is_digit b || (b == code "_")

-- x, X, z, Z and ? stand for bits without a value
abbrev pub is_open_digit : ℕ → Bool
is_open_digit b = (b == code "x") || (b == code "X") || (b == code "z") || (b == code "Z") || (b == code "?")

-- the digits of base 2, with _ and those without a value
abbrev pub is_binary_digit : ℕ → Bool
is_binary_digit b = (b == code "0") || (b == code "1") || (b == code "_") || is_open_digit b

-- each byte of the text passes
abbrev pub EachByte : (ℕ → Bool) → List ℕ → Type 0
EachByte p [] = Unit {0}
EachByte p (b ∷ bs) = IsTrue (p b) × EachByte p bs
