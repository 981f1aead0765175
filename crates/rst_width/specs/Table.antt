-- The table of expression sizing, row by row (IEEE 1364-2001, clause 4.4.1, table 29, with the signs of clause 4.5.1): the width and
-- sign that an expression has by itself, and what it becomes in a context.
use Rattle.std.specs.Prelude.{ℕ, ◌+◌, true, false, Option, Some, None, Result, ℤ}
use Rattle.rst_word.specs.declared.ops.UnaryOp.{UnaryOp}
use Rattle.rst_word.specs.declared.ops.UnaryOp.TheVariants as unary
use Rattle.rst_tree.specs.Trees.{Tree, Trees}
use Rattle.rst_tree.specs.Trees as tree
use Rattle.rst_width.specs.declared.typed_expr.Shape.{Shape}
use Rattle.rst_width.specs.Scopes.{Names, Meaning, Signal, Param, Later}
use Rattle.rst_width.specs.declared.typed_expr.WidthFault.{WidthFault}
use Rattle.rst_width.specs.Typed.{TypedList, sized_as}
use Rattle.rst_width.specs.Sized.{Answer, Found, Leaf, larger, in_context, by_itself}
use Rattle.rst_width.specs.Selects.{number_of_part, part_shape, open_shape}
use Rattle.rst_width.specs.Sizing.{Kind, Arithmetic, Moving, Comparing, Deciding, kind_of, one_bit, repeat_shape, sized, sized_parts}

-- A signal or a parameter has the width and sign of its declaration; a fault leaves them open.
abbrev pub declared_shape : Option Meaning → Shape
declared_shape None = open_shape
declared_shape (Some (Signal i extent)) = sized_as extent.width extent.signed
declared_shape (Some (Param w)) = sized_as w.width w.signed
declared_shape (Some (Later ranged)) = open_shape

-- `+ - ~` have those of the operand; `!` and the reductions are one unsigned bit.
abbrev pub unary_shape : UnaryOp → Shape → Shape
unary_shape unary.Plus a = a
unary_shape unary.Minus a = a
unary_shape unary.Invert a = a
unary_shape _ a = one_bit

-- `+ - * / % & | ^ ~^` have the larger width, and are signed where both operands are. Shifts have width and sign of the left operand.
-- Comparisons, `&&` and `||` are one unsigned bit.
abbrev pub binary_shape : Kind → Shape → Shape → Shape
binary_shape Arithmetic a b = larger a b
binary_shape Moving a b = a
binary_shape Comparing a b = one_bit
binary_shape Deciding a b = one_bit

-- What an expression by itself becomes, and in a context of this width and sign.
abbrev pub itself : Names → Tree → Answer
itself names e = by_itself (sized false names e)

abbrev pub becomes : Names → Tree → Shape → Answer
becomes names e context = in_context true (sized false names e) context

-- The number of a part that has to be constant.
abbrev pub number : Names → Tree → Option ℤ
number names e = number_of_part (itself names e)

abbrev mutual
  pub table_shape : Names → Tree → Shape
  table_shape names (tree.Number n) = sized_as n.width n.signed
  table_shape names (tree.Name n) = declared_shape (names n)
  table_shape names (tree.Bit n i) = one_bit
  table_shape names (tree.Part n h l) = part_shape (number names h) (number names l)
  table_shape names (tree.Paren e) = table_shape names e
  table_shape names (tree.Unary op e) = unary_shape op (table_shape names e)
  table_shape names (tree.Binary op a b) = binary_shape (kind_of op) (table_shape names a) (table_shape names b)
  table_shape names (tree.Choose c a b) = larger (table_shape names a) (table_shape names b)
  table_shape names (tree.Join es) = sized_as (table_sum names es) false
  table_shape names (tree.Repeat n es) = repeat_shape (number names n) (table_sum names es)
  table_shape names (tree.Signed e) = sized_as (table_shape names e).width true
  table_shape names (tree.Unsigned e) = sized_as (table_shape names e).width false

  -- the widths of the parts together
  pub table_sum : Names → Trees → ℕ
  table_sum names tree.end = 0
  table_sum names (tree.more x xs) = (table_shape names x).width + table_sum names xs

-- What doesn't work in its context stands there with its own width and sign, and is extended where the context is wider. A context
-- above 64 bits is TooWide, behind the faults of its parts and an undeclared name.
abbrev pub stands : Shape → Found → Shape → Answer
stands shape found context = in_context true (Leaf shape found) context

-- The parts of a join or a repetition, each by itself.
abbrev pub each_itself : Names → Trees → Result TypedList WidthFault
each_itself names es = (sized_parts false names es).list
