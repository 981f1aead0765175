-- Which typed expressions fit together: every place has the width that its context asks for.
use Rattle.std.specs.Prelude.{◌≡◌, ℕ, ◌+◌, ◌*◌, ◌≤◌, ◌<◌, false, IfOk}
use Rattle.rst_word.specs.declared.ops.UnaryOp.{UnaryOp}
use Rattle.rst_word.specs.declared.ops.UnaryOp.TheVariants as unary
use Rattle.rst_word.specs.declared.ops.BinaryOp.{BinaryOp}
use Rattle.rst_word.specs.declared.ops.BinaryOp.TheVariants as binary
use Rattle.rst_word.specs.Words.{IsWord}
use Rattle.rst_width.specs.declared.typed_expr.Shape.{Shape}
use Rattle.rst_width.specs.Typed.{Typed, Node, TypedList, typed, Word, Signal, Slice, Pick, Unary, Binary, Choose, Join, Repeat, Extend, Sign, end, more, shape_of, names_signal}
use Rattle.rst_width.specs.Values.{constant_word}
use Rattle.rst_width.specs.Sized.{Answer}
use Rattle.rst_width.specs.Sizing.{Kind, Arithmetic, Moving, Comparing, Deciding, kind_of}

-- 1 to 64 bits
pub record IsShape (shape : Shape) : Type 0 where
  pub some_bits : 0 < shape.width
  pub at_most_64 : shape.width ≤ 64

-- what an operator with one operand asks for: the operand's width and sign, or one bit
abbrev pub FitsUnary : UnaryOp → Shape → Shape → Type 0
FitsUnary unary.Plus shape a = a ≡ shape
FitsUnary unary.Minus shape a = a ≡ shape
FitsUnary unary.Invert shape a = a ≡ shape
FitsUnary op shape a = shape.width ≡ 1

-- and what one with two operands asks for
abbrev pub FitsBinary : Kind → Shape → Shape → Shape → Type 0
FitsBinary Arithmetic shape a b = (a ≡ shape) × (b ≡ shape)
FitsBinary Moving shape a b = a ≡ shape
FitsBinary Comparing shape a b = (shape.width ≡ 1) × (a ≡ b)
FitsBinary Deciding shape a b = shape.width ≡ 1

-- the operands of `/` and `%` are constant, and the divisor is not 0
pub record FitsDivision (a b : Typed) : Type 0 where
  pub dividend : names_signal a ≡ false
  pub divisor : names_signal b ≡ false
  pub not_zero : 0 < (constant_word b).value

abbrev pub FitsDivisor : BinaryOp → Typed → Typed → Type 0
FitsDivisor binary.Div a b = FitsDivision a b
FitsDivisor binary.Rem a b = FitsDivision a b
FitsDivisor _ a b = Unit {0}

-- the widths of the parts together
abbrev pub widths : TypedList → ℕ
widths end = 0
widths (more x xs) = (shape_of x).width + widths xs

abbrev mutual
  pub IsFit : Typed → Type 0
  IsFit (typed shape node) = IsShape shape × IsFitNode shape node

  pub IsFitNode : Shape → Node → Type 0
  IsFitNode shape (Word w) = IsWord w × (w.width ≡ shape.width)
  IsFitNode shape (Signal i) = Unit {0}
  IsFitNode shape (Slice i low width) = width ≡ shape.width
  IsFitNode shape (Pick i e) = (shape.width ≡ 1) × IsFit e
  IsFitNode shape (Unary op e) = FitsUnary op shape (shape_of e) × IsFit e
  IsFitNode shape (Binary op a b) = FitsBinary (kind_of op) shape (shape_of a) (shape_of b) × FitsDivisor op a b × IsFit a × IsFit b
  IsFitNode shape (Choose c a b) = (shape_of a ≡ shape) × (shape_of b ≡ shape) × IsFit c × IsFit a × IsFit b
  IsFitNode shape (Join es) = (widths es ≡ shape.width) × AreFit es
  IsFitNode shape (Repeat count es) = (0 < count) × (count * widths es ≡ shape.width) × AreFit es
  IsFitNode shape (Extend e) = ((shape_of e).width < shape.width) × IsFit e
  IsFitNode shape (Sign e) = ((shape_of e).width ≡ shape.width) × IsFit e

  pub AreFit : TypedList → Type 0
  AreFit end = Unit {0}
  AreFit (more x xs) = IsFit x × AreFit xs

-- an expression of this width and sign that fits
pub record IsFitAt (context : Shape) (e : Typed) : Type 0 where
  pub fit : IsFit e
  pub at : shape_of e ≡ context

-- an answer that fits in this context
abbrev pub FitsIn : Shape → Answer → Type 0
FitsIn context answer = IfOk answer (IsFitAt context)
