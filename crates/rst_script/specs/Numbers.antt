-- Numbers of any length, and what is read of them.
use Rattle.std.specs.Prelude.{ℕ, ◌+◌, ◌-◌, ◌*◌, ◌==◌, nat_le, nat_lt, ◌&&◌, List, [], ◌∷◌, length, Option, Some, None, if◌then◌else◌}
use Prim.Native.Char.{code}
use Rattle.rst_lex.specs.Bytes.{is_between, is_digit}

-- what a digit is worth: 0 to 9, 10 to 15 for the letters from a to f of either case, and 16 where the byte is none
abbrev pub digit_value : ℕ → ℕ
digit_value b = if is_digit b then b - code "0" else (if is_between "a" "f" b then b - code "a" + 10 else (if is_between "A" "F" b then b - code "A" + 10 else 16))

-- the number that digits write behind others, which write the number before
abbrev pub number_behind : ℕ → ℕ → List ℕ → Option ℕ
number_behind radix before [] = Some before
number_behind radix before (b ∷ bs) = if nat_lt (digit_value b) radix then number_behind radix (before * radix + digit_value b) bs else None

-- the number that digits of a radix write, one or more
abbrev pub number : ℕ → List ℕ → Option ℕ
number radix [] = None
number radix (b ∷ bs) = number_behind radix 0 (b ∷ bs)

-- the number where it is no greater
abbrev pub at_most : ℕ → Option ℕ → Option ℕ
at_most most None = None
at_most most (Some n) = if nat_le n most then Some n else None

-- the number where it is no less
abbrev pub at_least : ℕ → Option ℕ → Option ℕ
at_least least None = None
at_least least (Some n) = if nat_le least n then Some n else None

abbrev pub within : ℕ → ℕ → Option ℕ → Option ℕ
within least most n = at_least least (at_most most n)

-- how often a step is repeated, by a word `xN`: N has at most 6 digits and is at least 1, and so is at most 999,999
abbrev pub repetition : List ℕ → Option ℕ
repetition [] = None
repetition (b ∷ digits) = if (b == code "x") && nat_le (length digits) 6 then within 1 999999 (number 10 digits) else None

-- a value's number: decimal, or behind `0x` or `0b` to the base 16 or 2
abbrev pub value_number : List ℕ → Option ℕ
value_number [] = None
value_number (a ∷ []) = number 10 (a ∷ [])
value_number (a ∷ b ∷ digits) =
    if (a == code "0") && (b == code "x") then number 16 digits else (if (a == code "0") && (b == code "b") then number 2 digits else number 10 (a ∷ b ∷ digits))
