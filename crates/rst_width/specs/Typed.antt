-- Typed expressions in plain form, with lists in place of what lies in memory.
use Rattle.std.specs.Prelude.{ℕ, Bool, true, false, ◌||◌, List, [], ◌∷◌}
use Rattle.rst_word.specs.declared.ops.UnaryOp.{UnaryOp}
use Rattle.rst_word.specs.declared.ops.BinaryOp.{BinaryOp}
use Rattle.rst_word.specs.Words.{PlainWord}
use Rattle.rst_word.specs.Plain.{plain_word}
use Rattle.rst_width.specs.declared.typed_expr.Shape.{Shape}
use Rattle.rst_width.specs.declared.typed_expr.TypedExpr.{TypedExpr}
use Rattle.rst_width.specs.declared.typed_expr.TypedNode.{TypedNode, Row_of-TypedExpr, end_of-TypedExpr, more_of-TypedExpr}
use Rattle.rst_width.specs.declared.typed_expr.TypedNode.TheVariants as node
use Rattle.rst_width.specs.declared.typed_expr.TypedNode.TheBlock.{hidden-the_row-TypedExpr-0}
use Rattle.std.specs.declared.vec.Vec.{Vec}
use Rattle.std.specs.declared.alloc.Global.{Global}

mutual
  -- an expression with its final width and sign
  pub data Typed : Type 0 where
    typed : Shape → Node → Typed

  pub data Node : Type 0 where
    Word : PlainWord → Node
    Signal : ℕ → Node
    Slice : ℕ → ℕ → ℕ → Node
    Pick : ℕ → Typed → Node
    Unary : UnaryOp → Typed → Node
    Binary : BinaryOp → Typed → Typed → Node
    Choose : Typed → Typed → Typed → Node
    Join : TypedList → Node
    Repeat : ℕ → TypedList → Node
    Extend : Typed → Node
    Sign : Typed → Node

  pub data TypedList : Type 0 where
    end : TypedList
    more : Typed → TypedList → TypedList

-- a width and a sign
abbrev pub sized_as : ℕ → Bool → Shape
sized_as width signed = record { width = width; signed = signed }

abbrev mutual
  pub plain_node : TypedNode → Node
  plain_node (node.Word w) = Word (plain_word w)
  plain_node (node.Signal i) = Signal i
  plain_node (node.Slice i low width) = Slice i low width
  plain_node (node.Pick' i p w s n) = Pick i (typed (sized_as w s) (plain_node n))
  plain_node (node.Unary' op p w s n) = Unary op (typed (sized_as w s) (plain_node n))
  plain_node (node.Binary' op p w s n q v t m) = Binary op (typed (sized_as w s) (plain_node n)) (typed (sized_as v t) (plain_node m))
  plain_node (node.Choose' p w s n q v t m r u z o) = Choose (typed (sized_as w s) (plain_node n)) (typed (sized_as v t) (plain_node m)) (typed (sized_as u z) (plain_node o))
  plain_node (node.Join' shape row) = Join (plain_row row)
  plain_node (node.Repeat' count shape row) = Repeat count (plain_row row)
  plain_node (node.Extend' p w s n) = Extend (typed (sized_as w s) (plain_node n))
  plain_node (node.Sign' p w s n) = Sign (typed (sized_as w s) (plain_node n))

  pub plain_row : {m : _} → Row_of-TypedExpr m → TypedList
  plain_row end_of-TypedExpr = end
  plain_row (more_of-TypedExpr w s n xs) = more (typed (sized_as w s) (plain_node n)) (plain_row xs)

abbrev pub plain_typed : TypedExpr → Typed
plain_typed e = typed (sized_as e.width e.signed) (plain_node e.node)

-- the plain forms of what a vector holds
abbrev pub plain_vec : Vec TypedExpr Global → TypedList
plain_vec v = plain_row (hidden-the_row-TypedExpr-0 v)

-- the plain forms of a list
abbrev pub plain_all : List TypedExpr → TypedList
plain_all [] = end
plain_all (x ∷ xs) = more (plain_typed x) (plain_all xs)

-- an expression behind the others
abbrev pub appended : TypedList → Typed → TypedList
appended end e = more e end
appended (more x xs) e = more x (appended xs e)

-- the final width and sign
abbrev pub shape_of : Typed → Shape
shape_of (typed shape node) = shape

-- Whether a signal is named. An expression that names none is constant.
abbrev mutual
  pub names_signal : Typed → Bool
  names_signal (typed shape node) = node_names node

  pub node_names : Node → Bool
  node_names (Word w) = false
  node_names (Signal i) = true
  node_names (Slice i low width) = true
  node_names (Pick i e) = true
  node_names (Unary op e) = names_signal e
  node_names (Binary op a b) = names_signal a || names_signal b
  node_names (Choose c a b) = names_signal c || (names_signal a || names_signal b)
  node_names (Join es) = list_names es
  node_names (Repeat count es) = list_names es
  node_names (Extend e) = names_signal e
  node_names (Sign e) = names_signal e

  pub list_names : TypedList → Bool
  list_names end = false
  list_names (more x xs) = names_signal x || list_names xs
