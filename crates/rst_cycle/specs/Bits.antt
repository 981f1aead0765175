-- The bits of numbers, and of signals. The place of a bit is counted from the lowest, which has place 0.
use Rattle.std.specs.Prelude.{ℕ, zero, suc, ◌+◌, ◌*◌, ◌/◌, ◌%◌, ◌^◌, nat_eq, Bool, not, cond, List, [], ◌∷◌}

-- whether a number has a 1 at a place
abbrev pub has_bit : ℕ → ℕ → Bool
has_bit n place = nat_eq (n / 2 ^ place % 2) 1

abbrev pub same_bit : Bool → Bool → Bool
same_bit a b = cond a b (not b)

abbrev pub digit : Bool → ℕ
digit bit = cond bit 1 0

-- the number that bits spell behind a number, the most significant bit first
abbrev pub spelled_behind : ℕ → List Bool → ℕ
spelled_behind n [] = n
spelled_behind n (bit ∷ bits) = spelled_behind (2 * n + digit bit) bits

abbrev pub spelled : List Bool → ℕ
spelled bits = spelled_behind 0 bits

-- the lowest bits of a number, the most significant first
abbrev pub bits_of : ℕ → ℕ → List Bool
bits_of zero n = []
bits_of (suc width) n = has_bit n width ∷ bits_of width n

-- a number with `width` bits from the place `low` on replaced by the lowest bits of another
abbrev pub replaced : ℕ → ℕ → ℕ → ℕ → ℕ
replaced low width old part = old % 2 ^ low + (part % 2 ^ width * 2 ^ low + old / 2 ^ (low + width) * 2 ^ (low + width))
