-- Sized expressions: names are looked up, and each part that stands by itself is typed at its own width.
use Rattle.std.specs.Prelude.{max, nat_eq, nat_lt, Bool, true, false, cond, ◌&&◌, ◌||◌, Result, Ok, Err}
use Rattle.rst_word.specs.declared.ops.UnaryOp.{UnaryOp}
use Rattle.rst_word.specs.declared.ops.BinaryOp.{BinaryOp}
use Rattle.rst_word.specs.declared.ops.BinaryOp.TheVariants as op
use Rattle.rst_width.specs.declared.typed_expr.Shape.{Shape}
use Rattle.rst_width.specs.declared.typed_expr.WidthFault.{WidthFault}
use Rattle.rst_width.specs.declared.typed_expr.WidthFault.TheVariants.{TooWide, NotConstant, ZeroDivisor}
use Rattle.rst_width.specs.Typed.{Typed, Node, typed, Extend, names_signal}
use Rattle.rst_width.specs.Typed as node
use Rattle.rst_width.specs.Values.{constant_word}

-- A typed expression, or the first fault of it.
abbrev pub Answer : Type 0
Answer = Result Typed WidthFault

-- What a walk over a place and its parts gives. Of several faults the first counts: those of the parts come before the place's
-- own, and in one place NoName comes first, then TooWide, then the others.
pub data Found : Type 0 where
  -- a fault of a part, or a name that is not declared
  Earlier : WidthFault → Found
  -- a fault of the place itself, behind its TooWide
  Own : WidthFault → Found
  Good : Node → Found

-- The operators that work in their context, above what does not: a leaf has its own width and sign, which are those of the table
-- of expression sizing. The amount of a shift and the condition of a choice stand by themselves.
pub data Sized : Type 0 where
  Leaf : Shape → Found → Sized
  Unary : UnaryOp → Sized → Sized
  Binary : BinaryOp → Sized → Sized → Sized
  Shift : BinaryOp → Sized → Answer → Sized
  Choose : Answer → Sized → Sized → Sized

-- the larger width, signed where both are
abbrev pub larger : Shape → Shape → Shape
larger a b = record { width = max a.width b.width; signed = a.signed && b.signed }

-- The own width and sign of an expression (IEEE 1364-2001, clauses 4.4.1 and 4.5.1): `+ - ~` have those of the operand, a shift
-- those of its left operand; other operators and choices have the larger width of the two, and are signed where both are.
abbrev pub own : Sized → Shape
own (Leaf shape found) = shape
own (Unary op a) = own a
own (Binary op a b) = larger (own a) (own b)
own (Shift op a amount) = own a
own (Choose c a b) = larger (own a) (own b)

-- the first fault, or what follows of the typed expression
infixl 10 ◌>>=◌
abbrev pub ◌>>=◌ : {A B : Type 0} → Result A WidthFault → (A → Result B WidthFault) → Result B WidthFault
Ok x >>= f = f x
Err e >>= f = Err e

-- What stands at a leaf, brought to the width and sign of its context: where that is wider, the leaf keeps its own and is extended.
abbrev pub brought : Shape → Node → Shape → Typed
brought shape node context = cond (nat_lt shape.width context.width) (typed context (Extend (typed shape node))) (typed context node)

abbrev pub is_division : BinaryOp → Bool
is_division op.Div = true
is_division op.Rem = true
is_division _ = false

-- The operands of `/` and `%` have to be constant, and a divisor is not 0 at its final width. Where `tests` is false, a divisor
-- is not looked at, since a wider context could change it.
abbrev pub divided : Bool → Shape → BinaryOp → Typed → Typed → Answer
divided tests context op a b =
    cond (names_signal a || names_signal b) (Err NotConstant)
    (cond (tests && nat_eq (constant_word b).value 0) (Err ZeroDivisor) (Ok (typed context (node.Binary op a b))))

abbrev pub operated : Bool → Shape → BinaryOp → Typed → Typed → Answer
operated tests context op a b = cond (is_division op) (divided tests context op a b) (Ok (typed context (node.Binary op a b)))

-- An expression in its context, the width of which is at least its own: each operator that works in context, and each leaf, has
-- the width and sign of the context, which is TooWide above 64 bits. (An operator need not be tested: its leaves come before it.)
abbrev pub in_context : Bool → Sized → Shape → Answer
in_context tests (Leaf shape (Earlier fault)) context = Err fault
in_context tests (Leaf shape (Own fault)) context = cond (nat_lt 64 context.width) (Err TooWide) (Err fault)
in_context tests (Leaf shape (Good node)) context = cond (nat_lt 64 context.width) (Err TooWide) (Ok (brought shape node context))
in_context tests (Unary op a) context = in_context tests a context >>= λ x. Ok (typed context (node.Unary op x))
in_context tests (Binary op a b) context =
    in_context tests a context >>= λ x. in_context tests b context >>= λ y. operated tests context op x y
in_context tests (Shift op a amount) context =
    in_context tests a context >>= λ x. amount >>= λ y. Ok (typed context (node.Binary op x y))
in_context tests (Choose c a b) context =
    c >>= λ x. in_context tests a context >>= λ y. in_context tests b context >>= λ z. Ok (typed context (node.Choose x y z))

-- An expression by itself, at its own width and sign.
abbrev pub by_itself : Sized → Answer
by_itself e = in_context true e (own e)
