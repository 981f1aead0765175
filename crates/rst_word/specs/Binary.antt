-- What the operators with two operands give, in two values.
use Rattle.std.specs.Prelude.{◌≡◌, ℕ, ◌+◌, ◌-◌, ◌*◌, ◌/◌, ◌%◌, ◌^◌, ◌<◌, Bool, false, not, ◌&&◌, ◌||◌, nat_eq, bit_and, bit_or, bit_xor, ℤ, int_lt, int_le, int_div, int_rem}
use Rattle.rst_word.specs.Words.{PlainWord, bit_word, top_bit, read_as, modulo, filled}
use Rattle.rst_word.specs.Unary.{is_true}
use Rattle.rst_word.specs.declared.ops.BinaryOp.{BinaryOp}
use Rattle.rst_word.specs.declared.ops.BinaryOp.TheVariants.{Mul, Div, Rem, Add, Sub, Shl, Shr, ArithShl, ArithShr, Lt, Le, Gt, Ge, Eq, Ne, And, Xor, Xnor, Or, LogicAnd, LogicOr}

-- Two operands are read as signed where both are.
abbrev pub both_signed : PlainWord → PlainWord → Bool
both_signed a b = a.signed && b.signed

-- A word of the operands' width, signed where both are.
abbrev pub sized_word : PlainWord → PlainWord → ℕ → PlainWord
sized_word a b value = record { width = a.width; signed = both_signed a b; value = value }

-- The number of an operand, by the sign of both.
abbrev pub left_number : PlainWord → PlainWord → ℤ
left_number a b = read_as (both_signed a b) a

abbrev pub right_number : PlainWord → PlainWord → ℤ
right_number a b = read_as (both_signed a b) b

-- The bits of the number go `places` up. Those above the width are lost, and those below are 0.
abbrev pub moved_up : PlainWord → ℕ → PlainWord
moved_up a places = record a { value = a.value * 2 ^ places % 2 ^ a.width }

-- The bits of the number go `places` down, and the bits that come free at the top are `fill`.
abbrev pub moved_down : Bool → PlainWord → ℕ → PlainWord
moved_down fill a places = record a { value = a.value / 2 ^ places + filled fill (a.width - places) a.width }

-- `+ - * / % & | ^ ~^` work on operands of one width and give that width. Sums, differences and products are modulo
-- 2 ^ width. `/` cuts the quotient of the numbers towards zero and `%` has the sign of the first operand, both modulo 2 ^ width.
-- A shift gives its left operand's width and sign; the amount is read as unsigned, and `>>>` of a signed word copies the top bit.
-- Comparisons of the numbers, `&&` and `||` give one unsigned bit.
abbrev pub binary_word : BinaryOp → PlainWord → PlainWord → PlainWord
binary_word Mul a b = sized_word a b (a.value * b.value % 2 ^ a.width)
binary_word Div a b = sized_word a b (modulo a.width (int_div (left_number a b) (right_number a b)))
binary_word Rem a b = sized_word a b (modulo a.width (int_rem (left_number a b) (right_number a b)))
binary_word Add a b = sized_word a b ((a.value + b.value) % 2 ^ a.width)
binary_word Sub a b = sized_word a b ((a.value + (2 ^ a.width - b.value)) % 2 ^ a.width)
binary_word Shl a b = moved_up a b.value
binary_word Shr a b = moved_down false a b.value
binary_word ArithShl a b = moved_up a b.value
binary_word ArithShr a b = moved_down (a.signed && top_bit a.width a.value) a b.value
binary_word Lt a b = bit_word (int_lt (left_number a b) (right_number a b))
binary_word Le a b = bit_word (int_le (left_number a b) (right_number a b))
binary_word Gt a b = bit_word (int_lt (right_number a b) (left_number a b))
binary_word Ge a b = bit_word (int_le (right_number a b) (left_number a b))
binary_word Eq a b = bit_word (nat_eq a.value b.value)
binary_word Ne a b = bit_word (not (nat_eq a.value b.value))
binary_word And a b = sized_word a b (bit_and a.value b.value)
binary_word Xor a b = sized_word a b (bit_xor a.value b.value)
binary_word Xnor a b = sized_word a b (2 ^ a.width - 1 - bit_xor a.value b.value)
binary_word Or a b = sized_word a b (bit_or a.value b.value)
binary_word LogicAnd a b = bit_word (is_true a && is_true b)
binary_word LogicOr a b = bit_word (is_true a || is_true b)

-- The operands have one width, but for shifts, `&&` and `||`, which take operands of any widths.
abbrev pub HasWidths : BinaryOp → PlainWord → PlainWord → Type 0
HasWidths Shl a b = Unit {0}
HasWidths Shr a b = Unit {0}
HasWidths ArithShl a b = Unit {0}
HasWidths ArithShr a b = Unit {0}
HasWidths LogicAnd a b = Unit {0}
HasWidths LogicOr a b = Unit {0}
HasWidths _ a b = a.width ≡ b.width

-- A divisor is not 0.
abbrev pub HasDivisor : BinaryOp → PlainWord → Type 0
HasDivisor Div b = 0 < b.value
HasDivisor Rem b = 0 < b.value
HasDivisor _ b = Unit {0}
