-- Reading from the front of a line: what was read, and the rest. None where the line has no such front.
use Rattle.std.specs.Prelude.{◌≡◌, ◌==◌, ◌&&◌, ◌||◌, ◌^◌, ℕ, ℤ, pos, negsuc, ◌-◌, ◌++◌, zero, suc, Bool, true, false, nat_le, nat_lt, bytes_eq, Option, None, Some, Result, Ok, Err, ⊤, List, [], ◌∷◌, map, length, take, drop, if◌then◌else◌, codes}
use Rattle.std.specs.List.{list_all}
use Rattle.std.specs.Fmt.{decimal}
use Rattle.std.specs.Str.Parse.{digits_value}
use Rattle.rst_value.specs.declared.tern.Tern.{Tern}
use Rattle.rst_value.specs.declared.tern.Tern.TheVariants.{Zero, One, Unknown}
use Rattle.rst_cert_lines.specs.declared.cursor.LineFault.{LineFault}
use Rattle.rst_cert_lines.specs.declared.cursor.LineFault.TheVariants.{Wrong, NoMemory}

abbrev pub Read : Type 0 → Type 0
Read A = Option (A × List ℕ)

-- what is read where a test holds
abbrev pub when : {A : Type 0} → Bool → Read A → Read A
when false read = None
when true read = read

-- what the first reads, and else what the second does
abbrev pub or_else : {A : Type 0} → Read A → Read A → Read A
or_else None other = other
or_else (Some found) other = Some found

infixl 10 ◌>>=◌
abbrev pub ◌>>=◌ : {A B : Type 0} → Read A → (A × List ℕ → Read B) → Read B
None >>= f = None
(Some found) >>= f = f found

-- what a call answered, and the rest that it left, are what reading gives, unless memory ran out
abbrev pub Gives : {A : Type 0} → Read A → Result A LineFault → List ℕ → Type 0
Gives read (Ok a) rest = read ≡ Some (a, rest)
Gives read (Err Wrong) rest = read ≡ None
Gives read (Err NoMemory) rest = ⊤

-- these bytes
unfoldable pub after : List ℕ → List ℕ → Read (Unit {0})
after word text = if bytes_eq (take (length word) text) word then Some (tt, drop (length word) text) else None

abbrev pub is_bit : ℕ → Bool
is_bit c = (c == 48) || (c == 49)

abbrev pub bit_of : ℕ → Bool
bit_of c = c == 49

-- so many digits of bits
unfoldable pub bits_at : ℕ → List ℕ → Read (List Bool)
bits_at count text = if nat_le count (length text) && list_all is_bit (take count text) then Some (map bit_of (take count text), drop count text) else None

abbrev pub is_place : ℕ → Bool
is_place c = is_bit c || (c == 45)

abbrev pub place_of : ℕ → Tern
place_of c = if c == 48 then Zero else (if c == 49 then One else Unknown)

-- so many digits of places
unfoldable pub places_at : ℕ → List ℕ → Read (List Tern)
places_at count text = if nat_le count (length text) && list_all is_place (take count text) then Some (map place_of (take count text), drop count text) else None

-- the bytes up to a space, or all of them
abbrev pub word_of : List ℕ → List ℕ
word_of [] = []
word_of (b ∷ text) = if b == 32 then [] else b ∷ word_of text

-- a number below 2^64 in decimal digits, without leading zeros, up to a space or the end
unfoldable pub number_at : List ℕ → Read ℕ
number_at text =
    let value = digits_value 10 (word_of text) in
    if nat_lt value (2 ^ 64) && bytes_eq (decimal value) (word_of text) then Some (value, drop (length (word_of text)) text) else None

abbrev pub negative_in : ℕ × List ℕ → Read ℤ
negative_in it = if nat_lt 0 it.0 && nat_le it.0 (2 ^ 31) then Some (negsuc (it.0 - 1), it.1) else None

abbrev pub positive_in : ℕ × List ℕ → Read ℤ
positive_in it = if nat_lt 0 it.0 && nat_lt it.0 (2 ^ 31) then Some (pos it.0, it.1) else None

unfoldable pub negative_at : List ℕ → Read ℤ
negative_at text = number_at text >>= negative_in

unfoldable pub positive_at : List ℕ → Read ℤ
positive_at text = number_at text >>= positive_in

abbrev pub signed_by : Read (Unit {0}) → List ℕ → Read ℤ
signed_by None text = positive_at text
signed_by (Some sign) text = negative_at sign.1

-- a signed number of 32 bits other than 0, up to a space or the end
unfoldable pub literal_at : List ℕ → Read ℤ
literal_at text = signed_by (after (codes "-") text) text

-- a literal and the space behind it, or the 0 that ends a clause, which is the last byte
unfoldable pub one_at : List ℕ → Read (Option ℤ)
one_at text =
    if bytes_eq text (codes "0") then Some (None, [])
    else (literal_at text >>= λ literal. after (codes " ") literal.1 >>= λ space. Some (Some literal.0, space.1))

abbrev pub literals_with : (List ℤ → List ℕ → Read (List ℤ)) → List ℤ → Read (Option ℤ) → Read (List ℤ)
literals_with next before None = None
literals_with next before (Some (None, rest)) = Some (before, rest)
literals_with next before (Some (Some literal, rest)) = next (before ++ literal ∷ []) rest

-- the literals up to the 0 that ends a clause, at most so many with it, behind those before
abbrev pub literals_behind : ℕ → List ℤ → List ℕ → Read (List ℤ)
literals_behind zero before text = None
literals_behind (suc most) before text = literals_with (literals_behind most) before (one_at text)
