-- Expressions in plain form: the same variants, with lists in place of what lies in memory.
use Rattle.std.specs.Prelude.{ℕ, suc, max, List, [], ◌∷◌}
use Rattle.rst_lex.specs.declared.token.Literal.{Literal}
use Rattle.rst_word.specs.declared.ops.UnaryOp.{UnaryOp}
use Rattle.rst_word.specs.declared.ops.BinaryOp.{BinaryOp}
use Rattle.rst_tree.specs.declared.expr.Expr.{Expr, Row_of-Expr, end_of-Expr, more_of-Expr}
use Rattle.rst_tree.specs.declared.expr.Expr.TheVariants as expr

-- a name is the list of its bytes
abbrev pub Text : Type 0
Text = List ℕ

mutual
  pub data Tree : Type 0 where
    Number : Literal → Tree
    Name : Text → Tree
    Bit : Text → Tree → Tree
    Part : Text → Tree → Tree → Tree
    Paren : Tree → Tree
    Unary : UnaryOp → Tree → Tree
    Binary : BinaryOp → Tree → Tree → Tree
    Choose : Tree → Tree → Tree → Tree
    Join : Trees → Tree
    Repeat : Tree → Trees → Tree
    Signed : Tree → Tree
    Unsigned : Tree → Tree

  pub data Trees : Type 0 where
    end : Trees
    more : Tree → Trees → Trees

abbrev mutual
  pub plain : Expr → Tree
  plain (expr.Number n) = Number n
  plain (expr.Name n) = Name n
  plain (expr.Bit' n p i) = Bit n (plain i)
  plain (expr.Part' n p h q l) = Part n (plain h) (plain l)
  plain (expr.Paren' p e) = Paren (plain e)
  plain (expr.Unary' op p e) = Unary op (plain e)
  plain (expr.Binary' op p a q b) = Binary op (plain a) (plain b)
  plain (expr.Choose' p c q a r b) = Choose (plain c) (plain a) (plain b)
  plain (expr.Join' shape row) = Join (plain_row row)
  plain (expr.Repeat' p n shape row) = Repeat (plain n) (plain_row row)
  plain (expr.Signed' p e) = Signed (plain e)
  plain (expr.Unsigned' p e) = Unsigned (plain e)

  pub plain_row : {m : _} → Row_of-Expr m → Trees
  plain_row end_of-Expr = end
  plain_row (more_of-Expr x xs) = more (plain x) (plain_row xs)

-- the plain forms of a list
abbrev pub plain_all : List Expr → Trees
plain_all [] = end
plain_all (x ∷ xs) = more (plain x) (plain_all xs)

-- The nodes of a tree are its expressions, statements and targets, and the parts of a node are the nodes inside it
-- with no other node between. A node without parts has height 1, and any other one more than the greatest height of
-- its parts.
abbrev mutual
  pub height : Tree → ℕ
  height (Number n) = 1
  height (Name n) = 1
  height (Bit n i) = suc (height i)
  height (Part n h l) = suc (max (height h) (height l))
  height (Paren e) = suc (height e)
  height (Unary op e) = suc (height e)
  height (Binary op a b) = suc (max (height a) (height b))
  height (Choose c a b) = suc (max (height c) (max (height a) (height b)))
  height (Join es) = suc (greatest es)
  height (Repeat n es) = suc (max (height n) (greatest es))
  height (Signed e) = suc (height e)
  height (Unsigned e) = suc (height e)

  -- the greatest height, 0 where there is none
  pub greatest : Trees → ℕ
  greatest end = 0
  greatest (more x xs) = max (height x) (greatest xs)

-- a tree behind the others
abbrev pub appended : Trees → Tree → Trees
appended end e = more e end
appended (more x xs) e = more x (appended xs e)
