-- The widths of an operator's operands.
use Rattle.std.specs.Prelude.{◌≡◌, ℕ}
use Rattle.rst_word.specs.declared.ops.BinaryOp.{BinaryOp}
use Rattle.rst_word.specs.declared.ops.BinaryOp.TheVariants.{Shl, Shr, ArithShl, ArithShr, LogicAnd, LogicOr}

-- The operands have one width, but for shifts, `&&` and `||`, which take operands of any widths.
abbrev pub TakesWidths : BinaryOp → ℕ → ℕ → Type 0
TakesWidths Shl w v = Unit {0}
TakesWidths Shr w v = Unit {0}
TakesWidths ArithShl w v = Unit {0}
TakesWidths ArithShr w v = Unit {0}
TakesWidths LogicAnd w v = Unit {0}
TakesWidths LogicOr w v = Unit {0}
TakesWidths _ w v = w ≡ v
