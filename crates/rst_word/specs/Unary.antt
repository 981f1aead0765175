-- What the operators with one operand give, in two values.
use Rattle.std.specs.Prelude.{◌-◌, ◌%◌, ◌^◌, Bool, not, nat_eq, count_ones}
use Rattle.rst_word.specs.Words.{PlainWord, bit_word}
use Rattle.rst_word.specs.declared.ops.UnaryOp.{UnaryOp}
use Rattle.rst_word.specs.declared.ops.UnaryOp.TheVariants.{Plus, Minus, Not, Invert, And, Nand, Or, Nor, Xor, Xnor}

-- Every bit of the operand is 1.
abbrev pub all_ones : PlainWord → Bool
all_ones a = nat_eq a.value (2 ^ a.width - 1)

-- A word is true where its number is not 0.
abbrev pub is_true : PlainWord → Bool
is_true a = not (nat_eq a.value 0)

-- An odd number of the operand's bits are 1.
abbrev pub odd_ones : PlainWord → Bool
odd_ones a = nat_eq (count_ones a.value % 2) 1

-- `+ - ~` have the operand's width and sign; `-` is modulo 2 ^ width, and `~` turns each bit.
-- `!` and the reductions give one unsigned bit: a reduction joins all bits of its operand by its operator.
abbrev pub unary_word : UnaryOp → PlainWord → PlainWord
unary_word Plus a = a
unary_word Minus a = record a { value = (2 ^ a.width - a.value) % 2 ^ a.width }
unary_word Invert a = record a { value = 2 ^ a.width - 1 - a.value }
unary_word Not a = bit_word (not (is_true a))
unary_word And a = bit_word (all_ones a)
unary_word Nand a = bit_word (not (all_ones a))
unary_word Or a = bit_word (is_true a)
unary_word Nor a = bit_word (not (is_true a))
unary_word Xor a = bit_word (odd_ones a)
unary_word Xnor a = bit_word (not (odd_ones a))
