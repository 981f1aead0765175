-- How many gates an operator asks for at most, by the widths of its operands.
use Rattle.std.specs.Prelude.{ℕ, ◌+◌, ◌*◌}
use Rattle.rst_word.specs.declared.ops.UnaryOp.{UnaryOp}
use Rattle.rst_word.specs.declared.ops.UnaryOp.TheVariants as unary
use Rattle.rst_word.specs.declared.ops.BinaryOp.{BinaryOp}
use Rattle.rst_word.specs.declared.ops.BinaryOp.TheVariants as binary

-- `~` and `+` ask for nothing, `-` for a sum, and `!` and the reductions for a gate a bit.
abbrev pub unary_weight : UnaryOp → ℕ → ℕ
unary_weight unary.Plus w = 0
unary_weight unary.Invert w = 0
unary_weight unary.Minus w = 6 * w
unary_weight _ w = w

-- `/` and `%` are constant words. The operands of a shift, and of `&&` and `||`, may have two widths.
abbrev pub binary_weight : BinaryOp → ℕ → ℕ → ℕ
binary_weight binary.Mul w v = 7 * w * w
binary_weight binary.Div w v = 0
binary_weight binary.Rem w v = 0
binary_weight binary.Add w v = 6 * w
binary_weight binary.Sub w v = 6 * w
binary_weight binary.Shl w v = 7 * w + v
binary_weight binary.Shr w v = 7 * w + v
binary_weight binary.ArithShl w v = 7 * w + v
binary_weight binary.ArithShr w v = 7 * w + v
binary_weight binary.And w v = w
binary_weight binary.Xor w v = w
binary_weight binary.Xnor w v = w
binary_weight binary.Or w v = w
binary_weight binary.LogicAnd w v = w + v + 1
binary_weight binary.LogicOr w v = w + v + 1
binary_weight _ w v = 4 * w
