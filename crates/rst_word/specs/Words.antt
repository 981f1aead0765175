-- Words in plain form, and the numbers that they stand for.
use Rattle.std.specs.Prelude.{ℕ, ◌+◌, ◌-◌, ◌*◌, ◌/◌, ◌%◌, ◌^◌, ◌<◌, ◌≤◌, Bool, false, cond, ◌&&◌, nat_le, ℤ, pos, ◌-ℤ◌, unsigned_abs}
use Rattle.std.specs.Int.{int_rem_euclid}

-- A word of `width` bits. `value` is the number that the bits spell in base two, and `signed` says how the word is read.
pub record PlainWord : Type 0 where
  pub width : ℕ
  pub signed : Bool
  pub value : ℕ

-- A word has 1 to 64 bits, which spell a number below 2 to the power of the width.
pub record IsWord (w : PlainWord) : Type 0 where
  pub some_bits : 0 < w.width
  pub at_most_64 : w.width ≤ 64
  pub fits : w.value < 2 ^ w.width

-- The top bit of the number `value` of `width` bits.
abbrev pub top_bit : ℕ → ℕ → Bool
top_bit width value = nat_le (2 ^ (width - 1)) value

-- Two's complement: where the top bit is set, the bits stand for 2 ^ width less than they spell.
abbrev pub signed_value : ℕ → ℕ → ℤ
signed_value width value = cond (top_bit width value) (pos value -ℤ pos (2 ^ width)) (pos value)

-- The number that the word stands for, read as signed or as unsigned.
abbrev pub read_as : Bool → PlainWord → ℤ
read_as signed w = cond signed (signed_value w.width w.value) (pos w.value)

-- The number that the word stands for by its own sign.
abbrev pub number_of : PlainWord → ℤ
number_of w = read_as w.signed w

-- The number modulo 2 ^ width: the one below 2 ^ width that differs from it by a multiple of 2 ^ width.
abbrev pub modulo : ℕ → ℤ → ℕ
modulo width number = unsigned_abs (int_rem_euclid number (pos (2 ^ width)))

-- The one bit that a test gives, unsigned.
abbrev pub bit_word : Bool → PlainWord
bit_word test = record { width = 1; signed = false; value = cond test 1 0 }

-- The bit `fill` at each place from `from` up to `to`, which is left out, and 0 elsewhere.
abbrev pub filled : Bool → ℕ → ℕ → ℕ
filled fill from to = cond fill (2 ^ to - 2 ^ from) 0

-- Extension to `width` bits: the new bits copy the top bit where the extension is signed, and are 0 where it is not.
-- The result is signed where the extension is.
abbrev pub extended : ℕ → Bool → PlainWord → PlainWord
extended width signed w = record { width = width; signed = signed; value = w.value + filled (signed && top_bit w.width w.value) w.width width }

-- The lowest `width` bits, read by the same sign.
abbrev pub truncated : ℕ → PlainWord → PlainWord
truncated width w = record { width = width; signed = w.signed; value = w.value % 2 ^ width }

-- A part-select: `width` bits from place `low` on. It is unsigned, whatever it is taken from.
abbrev pub part_of : ℕ → ℕ → PlainWord → PlainWord
part_of low width w = record { width = width; signed = false; value = w.value / 2 ^ low % 2 ^ width }

-- The bits of `high` above those of `low`. A join is unsigned.
abbrev pub joined : PlainWord → PlainWord → PlainWord
joined high low = record { width = high.width + low.width; signed = false; value = high.value * 2 ^ low.width + low.value }
