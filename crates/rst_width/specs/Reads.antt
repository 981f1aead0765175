-- What a typed expression reads lies inside its signals.
use Rattle.std.specs.Prelude.{◌≡◌, ℕ, ◌+◌, ◌^◌, ◌≤◌, Some}
use Rattle.rst_tree.specs.Trees.{Text}
use Rattle.rst_width.specs.declared.typed_expr.Shape.{Shape}
use Rattle.rst_width.specs.Scopes.{Names, Extent}
use Rattle.rst_width.specs.Scopes as scope
use Rattle.rst_width.specs.Typed.{Typed, Node, TypedList, typed, Word, Signal, Slice, Pick, Unary, Binary, Choose, Join, Repeat, Extend, Sign, end, more, shape_of}

-- The signals of a scope have these widths, by their numbers.
abbrev pub HaveWidths : (ℕ → ℕ) → Names → Type 0
HaveWidths widths names = (name : Text) (i : ℕ) (extent : Extent) → names name ≡ Some (scope.Signal i extent) → widths i ≡ extent.width

abbrev mutual
  -- A whole signal is read at its width, a slice lies inside it, and so does every bit that an index can name.
  pub ReadsInside : (ℕ → ℕ) → Typed → Type 0
  ReadsInside widths (typed shape node) = NodeReadsInside widths shape node

  pub NodeReadsInside : (ℕ → ℕ) → Shape → Node → Type 0
  NodeReadsInside widths shape (Word w) = Unit {0}
  NodeReadsInside widths shape (Signal i) = widths i ≡ shape.width
  NodeReadsInside widths shape (Slice i low width) = low + width ≤ widths i
  NodeReadsInside widths shape (Pick i e) = (2 ^ (shape_of e).width ≤ widths i) × ReadsInside widths e
  NodeReadsInside widths shape (Unary op e) = ReadsInside widths e
  NodeReadsInside widths shape (Binary op a b) = ReadsInside widths a × ReadsInside widths b
  NodeReadsInside widths shape (Choose c a b) = ReadsInside widths c × ReadsInside widths a × ReadsInside widths b
  NodeReadsInside widths shape (Join es) = AllReadInside widths es
  NodeReadsInside widths shape (Repeat count es) = AllReadInside widths es
  NodeReadsInside widths shape (Extend e) = ReadsInside widths e
  NodeReadsInside widths shape (Sign e) = ReadsInside widths e

  pub AllReadInside : (ℕ → ℕ) → TypedList → Type 0
  AllReadInside widths end = Unit {0}
  AllReadInside widths (more x xs) = ReadsInside widths x × AllReadInside widths xs
