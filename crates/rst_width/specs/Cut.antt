-- Sized expressions as the code holds them: 65 stands for every own width above 64.
use Rattle.std.specs.Prelude.{◌≡◌, ℕ, min, ◌≤◌, ◌<◌, Bool, ◌+◌, Result, Ok, IfOk}
use Rattle.rst_width.specs.declared.typed_expr.Shape.{Shape}
use Rattle.rst_width.specs.Sized.{Answer, own, by_itself, ◌>>=◌, Sized, Found, Leaf, Unary, Binary, Shift, Choose, Earlier, Own, Good}
use Rattle.rst_width.specs.Sizing.{WorksInContext, Parts, Arithmetic, Moving, kind_of}
use Rattle.rst_width.specs.Fit.{IsFit, IsFitNode}
use Rattle.rst_width.specs.Typed.{TypedList, end, more, appended, sized_as}
use Rattle.rst_width.specs.declared.typed_expr.WidthFault.{WidthFault}

abbrev pub cut_width : ℕ → ℕ
cut_width width = min width 65

abbrev pub cut_shape : Shape → Shape
cut_shape shape = record { width = cut_width shape.width; signed = shape.signed }

-- An expression whose leaves have cut widths. That is enough: the largest of widths, their sum, and count times a width are above
-- 64 exactly where those of the cut widths are.
abbrev pub cut : Sized → Sized
cut (Leaf shape found) = Leaf (cut_shape shape) found
cut (Unary op a) = Unary op (cut a)
cut (Binary op a b) = Binary op (cut a) (cut b)
cut (Shift op a amount) = Shift op (cut a) amount
cut (Choose c a b) = Choose c (cut a) (cut b)

-- parts with a cut width
abbrev pub cut_parts : Parts → Parts
cut_parts parts = record { width = cut_width parts.width; list = parts.list }

-- typed parts with one more behind them, if that has no fault
abbrev pub with_last : TypedList → Answer → Result TypedList WidthFault
with_last xs last = last >>= λ x. Ok (appended xs x)

-- parts with one more behind them
abbrev pub with_next : Parts → Sized → Parts
with_next parts next = record {
  width = cut_width (parts.width + (own next).width);
  list = parts.list >>= λ xs. with_last xs (by_itself next);
}

-- where there are parts, they have a width
abbrev pub HasWidth : ℕ → TypedList → Type 0
HasWidth width end = Unit {0}
HasWidth width (more x xs) = 0 < width

-- What stands at a leaf has a width, and fits, whatever sign the context gives it, where that is at most 64.
abbrev pub IsFitFound : Shape → Found → Type 0
IsFitFound shape (Earlier fault) = Unit {0}
IsFitFound shape (Own fault) = Unit {0}
IsFitFound shape (Good node) = (0 < shape.width) × (shape.width ≤ 64 → (signed : Bool) → IsFitNode (sized_as shape.width signed) node)

-- Typed parts fit, and the operators are those that work in context.
abbrev pub IsFitSized : Sized → Type 0
IsFitSized (Leaf shape found) = IsFitFound shape found
IsFitSized (Unary op a) = WorksInContext op × IsFitSized a
IsFitSized (Binary op a b) = (kind_of op ≡ Arithmetic) × IsFitSized a × IsFitSized b
IsFitSized (Shift op a amount) = (kind_of op ≡ Moving) × IsFitSized a × IfOk amount IsFit
IsFitSized (Choose c a b) = IfOk c IsFit × IsFitSized a × IsFitSized b
