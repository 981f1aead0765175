-- How many gates operators ask for.
use Rattle.std.specs.Prelude.{ℕ, ◌+◌, ◌*◌}
use Rattle.rst_word.specs.declared.ops.UnaryOp.{UnaryOp}
use Rattle.rst_word.specs.declared.ops.UnaryOp.TheVariants as unary
use Rattle.rst_word.specs.declared.ops.BinaryOp.{BinaryOp}
use Rattle.rst_word.specs.declared.ops.BinaryOp.TheVariants.{Mul, Div, Rem, Add, Sub, Shl, Shr, ArithShl, ArithShr, Lt, Le, Gt, Ge, Eq, Ne, And, Xor, Xnor, Or, LogicAnd, LogicOr}

-- The weight of an operator with one operand, by its own width and the operand's: bits are inverted at no cost, a negation is a
-- difference, and `!` and the reductions go over all bits.
abbrev pub unary_weight : UnaryOp → ℕ → ℕ → ℕ
unary_weight unary.Plus width operand = 0
unary_weight unary.Invert width operand = 0
unary_weight unary.Minus width operand = 6 * width
unary_weight op width operand = operand

-- The weight of an operator by its own width and those of its operands. Quotients and remainders are constant.
abbrev pub binary_weight : BinaryOp → ℕ → ℕ → ℕ → ℕ
binary_weight Mul width left right = 7 * (width * width)
binary_weight Div width left right = 0
binary_weight Rem width left right = 0
binary_weight Add width left right = 6 * width
binary_weight Sub width left right = 6 * width
binary_weight Shl width left right = 7 * width + right
binary_weight Shr width left right = 7 * width + right
binary_weight ArithShl width left right = 7 * width + right
binary_weight ArithShr width left right = 7 * width + right
binary_weight Lt width left right = 4 * left
binary_weight Le width left right = 4 * left
binary_weight Gt width left right = 4 * left
binary_weight Ge width left right = 4 * left
binary_weight Eq width left right = 4 * left
binary_weight Ne width left right = 4 * left
binary_weight And width left right = width
binary_weight Xor width left right = width
binary_weight Xnor width left right = width
binary_weight Or width left right = width
binary_weight LogicAnd width left right = left + right + 1
binary_weight LogicOr width left right = left + right + 1
