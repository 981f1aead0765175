-- The weight of a typed expression: how many gates it asks for at most.
use Rattle.std.specs.Prelude.{ℕ, ◌+◌, if◌then◌else◌}
use Rattle.rst_width.specs.declared.typed_expr.Shape.{Shape}
use Rattle.rst_width.specs.Typed.{Typed, Node, TypedList, typed, Word, Signal, Slice, Pick, Unary, Binary, Choose, Join, Repeat, Extend, Sign, end, more, shape_of}
use Rattle.rst_terms.specs.Operators.{is_division}
use Rattle.rst_terms.specs.Weights.{unary_weight, binary_weight}

-- A variable select weighs the width of its signal. `/` and `%` weigh nothing, operands included. The parts of a repetition are
-- counted once.
abbrev mutual
  pub expression_weight : (ℕ → ℕ) → Typed → ℕ
  expression_weight widths (typed shape node) = node_weight widths shape node

  pub node_weight : (ℕ → ℕ) → Shape → Node → ℕ
  node_weight widths shape (Word w) = 0
  node_weight widths shape (Signal i) = 0
  node_weight widths shape (Slice i low width) = 0
  node_weight widths shape (Pick i e) = expression_weight widths e + widths i
  node_weight widths shape (Unary op e) = expression_weight widths e + unary_weight op (shape_of e).width
  node_weight widths shape (Binary op a b) =
      if is_division op then 0
      else expression_weight widths a + expression_weight widths b + binary_weight op (shape_of a).width (shape_of b).width
  node_weight widths shape (Choose c a b) =
      expression_weight widths c + expression_weight widths a + expression_weight widths b + (shape.width + (shape_of c).width)
  node_weight widths shape (Join es) = list_weight widths es
  node_weight widths shape (Repeat count es) = list_weight widths es
  node_weight widths shape (Extend e) = expression_weight widths e
  node_weight widths shape (Sign e) = expression_weight widths e

  pub list_weight : (ℕ → ℕ) → TypedList → ℕ
  list_weight widths end = 0
  list_weight widths (more x xs) = expression_weight widths x + list_weight widths xs
