-- The table of expression sizing (IEEE 1364-2001, clauses 4.4.1 and 4.5.1), with what is a fault at each place.
use Rattle.std.specs.Prelude.{ℕ, ◌+◌, ◌*◌, nat_lt, Bool, false, true, cond, Option, Some, None, Ok, Err, Result, ℤ, pos, int_le, unsigned_abs}
use Rattle.rst_lex.specs.declared.token.Literal.{Literal}
use Rattle.rst_word.specs.declared.ops.UnaryOp.{UnaryOp}
use Rattle.rst_word.specs.declared.ops.UnaryOp.TheVariants as unary
use Rattle.rst_word.specs.declared.ops.BinaryOp.{BinaryOp}
use Rattle.rst_word.specs.declared.ops.BinaryOp.TheVariants as binary
use Rattle.rst_word.specs.Words.{PlainWord}
use Rattle.rst_tree.specs.Trees.{Text, Tree, Trees}
use Rattle.rst_tree.specs.Trees as tree
use Rattle.rst_width.specs.declared.typed_expr.Shape.{Shape}
use Rattle.rst_width.specs.declared.typed_expr.WidthFault.{WidthFault}
use Rattle.rst_width.specs.declared.typed_expr.WidthFault.TheVariants.{NoName, TooWide, ZeroWidth, NotConstant}
use Rattle.rst_width.specs.Scopes.{Names, Meaning, Signal, Param, Later}
use Rattle.rst_width.specs.Typed.{Typed, Node, TypedList, end, more, sized_as}
use Rattle.rst_width.specs.Typed as node
use Rattle.rst_width.specs.Sized.{Answer, Found, Earlier, Own, Good, Sized, Leaf, Unary, Binary, Shift, Choose, own, larger, in_context, by_itself, ◌>>=◌}
use Rattle.rst_width.specs.Selects.{signal_at, bit_found, part_found, part_shape, number_of_part, open_shape}

abbrev pub word_of : Literal → PlainWord
word_of n = record { width = n.width; signed = n.signed; value = n.value }

-- one unsigned bit
abbrev pub one_bit : Shape
one_bit = sized_as 1 false

-- A literal has its own width and sign.
abbrev pub number_sized : Literal → Sized
number_sized n = Leaf (sized_as n.width n.signed) (Good (node.Word (word_of n)))

-- A signal or a parameter has the width and sign of its declaration. A name that has none yet is no constant.
abbrev pub named : Bool → Text → Option Meaning → Sized
named constant name None = Leaf open_shape (Earlier (NoName name))
named constant name (Some (Signal i extent)) = Leaf (sized_as extent.width extent.signed) (signal_at constant (node.Signal i))
named constant name (Some (Param w)) = Leaf (sized_as w.width w.signed) (Good (node.Word w))
named constant name (Some (Later ranged)) = Leaf open_shape (Own NotConstant)

-- what stands above parts that stand by themselves
abbrev pub above : Answer → (Typed → Node) → Found
above (Ok x) make = Good (make x)
above (Err fault) make = Earlier fault

abbrev pub above_both : Answer → Answer → (Typed → Typed → Node) → Found
above_both (Ok x) (Ok y) make = Good (make x y)
above_both (Ok x) (Err fault) make = Earlier fault
above_both (Err fault) y make = Earlier fault

-- the operators with one operand that work in context
abbrev pub WorksInContext : UnaryOp → Type 0
WorksInContext unary.Plus = Unit {0}
WorksInContext unary.Minus = Unit {0}
WorksInContext unary.Invert = Unit {0}
WorksInContext _ = ⊥

-- `+ - ~` work in context. `!` and the reductions take an operand by itself, and give one unsigned bit.
abbrev pub unary_sized : UnaryOp → Sized → Sized
unary_sized unary.Plus a = Unary unary.Plus a
unary_sized unary.Minus a = Unary unary.Minus a
unary_sized unary.Invert a = Unary unary.Invert a
unary_sized op a = Leaf one_bit (above (by_itself a) (λ x. node.Unary op x))

-- How an operator with two operands takes them.
pub data Kind : Type 0 where
  -- both in context: `* / % + - & ^ ~^ |`
  Arithmetic : Kind
  -- the left one in context, the amount by itself: `<< >> <<< >>>`
  Moving : Kind
  -- both sized to the larger of the two, signed where both are: `< <= > >= == !=`
  Comparing : Kind
  -- each by itself: `&& ||`
  Deciding : Kind

abbrev pub kind_of : BinaryOp → Kind
kind_of binary.Shl = Moving
kind_of binary.Shr = Moving
kind_of binary.ArithShl = Moving
kind_of binary.ArithShr = Moving
kind_of binary.Lt = Comparing
kind_of binary.Le = Comparing
kind_of binary.Gt = Comparing
kind_of binary.Ge = Comparing
kind_of binary.Eq = Comparing
kind_of binary.Ne = Comparing
kind_of binary.LogicAnd = Deciding
kind_of binary.LogicOr = Deciding
kind_of binary.Mul = Arithmetic
kind_of binary.Div = Arithmetic
kind_of binary.Rem = Arithmetic
kind_of binary.Add = Arithmetic
kind_of binary.Sub = Arithmetic
kind_of binary.And = Arithmetic
kind_of binary.Xor = Arithmetic
kind_of binary.Xnor = Arithmetic
kind_of binary.Or = Arithmetic

-- one bit above two operands
abbrev pub decided : BinaryOp → Answer → Answer → Sized
decided op a b = Leaf one_bit (above_both a b (λ x y. node.Binary op x y))

abbrev pub binary_sized : Kind → BinaryOp → Sized → Sized → Sized
binary_sized Arithmetic op a b = Binary op a b
binary_sized Moving op a b = Shift op a (by_itself b)
binary_sized Comparing op a b =
    let both = larger (own a) (own b) in decided op (in_context true a both) (in_context true b both)
binary_sized Deciding op a b = decided op (by_itself a) (by_itself b)

-- Parts that stand by themselves: the sum of their widths, and the parts themselves or the first fault.
pub record Parts : Type 0 where
  pub width : ℕ
  pub list : Result TypedList WidthFault

abbrev pub no_parts : Parts
no_parts = record { width = 0; list = Ok end }

abbrev pub with_part : Sized → Parts → Parts
with_part first others = record {
  width = (own first).width + others.width;
  list = by_itself first >>= λ x. others.list >>= λ xs. Ok (more x xs);
}

-- A join is as wide as its parts together, and unsigned. One without parts, which no text has, is ZeroWidth.
abbrev pub join_found : Result TypedList WidthFault → Found
join_found (Err fault) = Earlier fault
join_found (Ok end) = Own ZeroWidth
join_found (Ok (more x xs)) = Good (node.Join (more x xs))

abbrev pub join_sized : Parts → Sized
join_sized parts = Leaf (sized_as parts.width false) (join_found parts.list)

-- A repetition is count times as wide as its parts together, and unsigned. The count is at least 1.
abbrev pub repeat_shape : Option ℤ → ℕ → Shape
repeat_shape None width = open_shape
repeat_shape (Some count) width = cond (int_le (pos 1) count) (sized_as (unsigned_abs count * width) false) open_shape

abbrev pub times : ℕ → ℕ → TypedList → Found
times count width parts = cond (nat_lt 64 (count * width)) (Own TooWide) (Good (node.Repeat count parts))

abbrev pub repeat_found : Option ℤ → ℕ → TypedList → Found
repeat_found None width parts = Own NotConstant
repeat_found (Some count) width end = Own ZeroWidth
repeat_found (Some count) width (more x xs) =
    cond (int_le (pos 1) count)
    (cond (nat_lt 64 (unsigned_abs count * width)) (Own TooWide) (Good (node.Repeat (unsigned_abs count) (more x xs))))
    (Own ZeroWidth)

-- The count comes first, then the parts, then the repetition.
abbrev pub counted_found : Answer → ℕ → Result TypedList WidthFault → Found
counted_found (Err fault) width parts = Earlier fault
counted_found (Ok count) width (Err fault) = Earlier fault
counted_found (Ok count) width (Ok parts) = repeat_found (number_of_part (Ok count)) width parts

abbrev pub repeat_sized : Answer → Parts → Sized
repeat_sized count parts = Leaf (repeat_shape (number_of_part count) parts.width) (counted_found count parts.width parts.list)

-- `$signed(e)` and `$unsigned(e)` have e's width and bits.
abbrev pub cast_sized : Bool → Sized → Sized
cast_sized signed a = Leaf (sized_as (own a).width signed) (above (by_itself a) node.Sign)

abbrev pub part_sized : Bool → Text → Option Meaning → Answer → Answer → Sized
part_sized constant name meaning high low =
    Leaf (part_shape (number_of_part high) (number_of_part low)) (part_found constant name meaning high low)

abbrev mutual
  -- An expression, sized. Where `constant` is true, a signal is NotConstant.
  pub sized : Bool → Names → Tree → Sized
  sized constant names (tree.Number n) = number_sized n
  sized constant names (tree.Name n) = named constant n (names n)
  sized constant names (tree.Bit n i) = Leaf one_bit (bit_found constant n (names n) (by_itself (sized constant names i)))
  sized constant names (tree.Part n h l) =
      part_sized constant n (names n) (by_itself (sized constant names h)) (by_itself (sized constant names l))
  sized constant names (tree.Paren e) = sized constant names e
  sized constant names (tree.Unary op e) = unary_sized op (sized constant names e)
  sized constant names (tree.Binary op a b) = binary_sized (kind_of op) op (sized constant names a) (sized constant names b)
  sized constant names (tree.Choose c a b) =
      Choose (by_itself (sized constant names c)) (sized constant names a) (sized constant names b)
  sized constant names (tree.Join es) = join_sized (sized_parts constant names es)
  sized constant names (tree.Repeat n es) = repeat_sized (by_itself (sized constant names n)) (sized_parts constant names es)
  sized constant names (tree.Signed e) = cast_sized true (sized constant names e)
  sized constant names (tree.Unsigned e) = cast_sized false (sized constant names e)

  pub sized_parts : Bool → Names → Trees → Parts
  sized_parts constant names tree.end = no_parts
  sized_parts constant names (tree.more x xs) = with_part (sized constant names x) (sized_parts constant names xs)
