-- The texts of numbers (IEEE 1364-2001, section 2.5).
use Rattle.std.specs.Prelude.{◌≡◌, ◌≢◌, ℕ, ◌==◌, Bool, ◌||◌, ◌&&◌, List, [], ◌∷◌, ◌++◌, IsTrue}
use Prim.Native.Char.{code}
use Rattle.rst_lex.specs.Bytes.{is_between, is_space, is_digit, is_decimal_byte, is_open_digit, is_binary_digit, EachByte}

-- a digit, and then digits and _
abbrev pub IsDecimal : List ℕ → Type 0
IsDecimal [] = ⊥
IsDecimal (b ∷ bs) = IsTrue (is_digit b) × EachByte is_decimal_byte bs

abbrev pub is_octal_digit : ℕ → Bool
is_octal_digit b = is_between "0" "7" b || (b == code "_") || is_open_digit b

abbrev pub is_hex_digit : ℕ → Bool
is_hex_digit b = is_digit b || is_between "A" "F" b || is_between "a" "f" b || (b == code "_") || is_open_digit b

-- The digits that may follow a base letter: b or B, o or O, d or D, h or H.
abbrev pub is_digit_behind : ℕ → ℕ → Bool
is_digit_behind letter b = (((letter == code "b") || (letter == code "B")) && is_binary_digit b)
    || (((letter == code "o") || (letter == code "O")) && is_octal_digit b)
    || (((letter == code "d") || (letter == code "D")) && is_decimal_byte b)
    || (((letter == code "h") || (letter == code "H")) && is_hex_digit b)

-- nothing, or a decimal number and white space behind it
abbrev pub IsSize : List ℕ → List ℕ → Type 0
IsSize [] gap = gap ≡ []
IsSize (b ∷ bs) gap = IsDecimal (b ∷ bs) × EachByte is_space gap

-- nothing, s or S
abbrev pub IsSign : List ℕ → Type 0
IsSign [] = Unit {0}
IsSign (b ∷ []) = IsTrue ((b == code "s") || (b == code "S"))
IsSign (b ∷ c ∷ bs) = ⊥

-- a digit at least, and the first is no _
abbrev pub IsDigitsBehind : ℕ → List ℕ → Type 0
IsDigitsBehind letter [] = ⊥
IsDigitsBehind letter (b ∷ bs) = (b ≢ code "_") × EachByte (is_digit_behind letter) (b ∷ bs)

-- The parts of a based literal: its size and the white space behind that, the sign behind ', the base letter,
-- the white space behind that, and the digits.
pub record Based : Type 0 where
  pub size : List ℕ
  pub gap : List ℕ
  pub sign : List ℕ
  pub letter : ℕ
  pub space : List ℕ
  pub digits : List ℕ

abbrev pub based_text : Based → List ℕ
based_text b = b.size ++ (b.gap ++ code "'" ∷ (b.sign ++ b.letter ∷ (b.space ++ b.digits)))

pub record IsBased (bs : List ℕ) (b : Based) : Type 0 where
  pub text : bs ≡ based_text b
  pub sized : IsSize b.size b.gap
  pub signed : IsSign b.sign
  pub spaced : EachByte is_space b.space
  pub digits : IsDigitsBehind b.letter b.digits
