-- What numbers are worth (IEEE 1364-2001, section 2.5).
use Rattle.std.specs.Prelude.{◌≡◌, ℕ, ◌+◌, ◌-◌, ◌*◌, ◌^◌, ◌%◌, ◌==◌, Bool, true, false, ◌||◌, not, List, [], ◌∷◌, count_by, if◌then◌else◌, bit_and, ◌⊎◌, IsTrue}
use Rattle.std.specs.Int.{bit_not, w64}
use Rattle.std.specs.List.{list_any}
use Prim.Native.Char.{code}
use Rattle.rst_lex.specs.declared.token.Literal.{Literal}
use Rattle.rst_lex.specs.Bytes.{is_between, is_digit}
use Rattle.rst_lex.specs.Numbers.{Based}

-- what a digit is worth: a letter from a or A on counts from 10, and x, z and ? count nothing
abbrev pub digit_value : ℕ → ℕ
digit_value b = if is_digit b then b - code "0" else (if is_between "A" "F" b then b - code "A" + 10 else (if is_between "a" "f" b then b - code "a" + 10 else 0))

-- _ stands between digits and is none
abbrev pub is_counted : ℕ → Bool
is_counted b = not (b == code "_")

abbrev pub digit_count : List ℕ → ℕ
digit_count bs = count_by is_counted bs

-- The number that digits of a radix write, each worth what `worth` says at its place.
abbrev pub number : ℕ → (ℕ → ℕ) → List ℕ → ℕ
number radix worth [] = 0
number radix worth (b ∷ bs) = if is_counted b then worth b * radix ^ digit_count bs + number radix worth bs else number radix worth bs

abbrev pub decimal_number : List ℕ → ℕ
decimal_number bs = number 10 digit_value bs

-- the bits of one digit behind b, o and h
abbrev pub digit_bits : ℕ → ℕ
digit_bits letter = if (letter == code "b") || (letter == code "B") then 1 else (if (letter == code "o") || (letter == code "O") then 3 else 4)

abbrev pub radix_of : ℕ → ℕ
radix_of letter = if (letter == code "d") || (letter == code "D") then 10 else 2 ^ digit_bits letter

-- z, Z and ? stand for bits that match anything
abbrev pub is_masked : ℕ → Bool
is_masked b = (b == code "z") || (b == code "Z") || (b == code "?")

-- x and X are digits that no number of the profile may have
abbrev pub is_unknown : ℕ → Bool
is_unknown b = (b == code "x") || (b == code "X")

abbrev pub begins_masked : List ℕ → Bool
begins_masked [] = false
begins_masked (b ∷ bs) = is_masked b

-- the size as a number, or 32
abbrev pub width_of : List ℕ → ℕ
width_of [] = 32
width_of (b ∷ bs) = decimal_number (b ∷ bs)

abbrev pub is_signed : List ℕ → Bool
is_signed [] = false
is_signed (b ∷ bs) = true

-- the bits above those that the digits give, which are masked where the leftmost digit is
abbrev pub missing_bits : ℕ → List ℕ → ℕ → ℕ
missing_bits letter digits width = if begins_masked digits then 2 ^ width - 2 ^ (digit_count digits * digit_bits letter) else 0

-- a masked digit as a number: all its bits
abbrev pub mask_digit : ℕ → ℕ → ℕ
mask_digit radix b = if is_masked b then radix - 1 else 0

-- the masked bits, cut to the width
abbrev pub mask_of : ℕ → List ℕ → ℕ → ℕ
mask_of letter digits width = (number (radix_of letter) (mask_digit (radix_of letter)) digits + missing_bits letter digits width) % 2 ^ width

-- The literal has this width and sign, and these digits behind a base letter: its value is the digits' number, cut to
-- the width, with 0 at the masked bits.
pub record LiteralOf (literal : Literal) (width : ℕ) (signed : Bool) (letter : ℕ) (digits : List ℕ) : Type 0 where
  pub has_width : literal.width ≡ width
  pub has_sign : literal.signed ≡ signed
  pub has_mask : literal.mask ≡ mask_of letter digits width
  pub has_value : literal.value ≡ bit_and (number (radix_of letter) digit_value digits % 2 ^ width) (bit_not w64 literal.mask)

abbrev pub HasParts : Literal → Based → Type 0
HasParts literal b = LiteralOf literal (width_of b.size) (is_signed b.sign) b.letter b.digits

-- A size of 0, or a digit x: no number.
abbrev pub IsNone : List ℕ → List ℕ → Type 0
IsNone size digits = (width_of size ≡ 0) ⊎ IsTrue (list_any is_unknown digits)

-- a plain decimal: 32 bits, signed, cut to them
pub record IsPlain (literal : Literal) (bs : List ℕ) : Type 0 where
  pub width : literal.width ≡ 32
  pub signed : literal.signed ≡ true
  pub value : literal.value ≡ decimal_number bs % 2 ^ 32
  pub mask : literal.mask ≡ 0
