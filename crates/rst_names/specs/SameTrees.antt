-- Whether two expressions, or two ranges, are the same tree.
use Rattle.std.specs.Prelude.{ℕ, nat_eq, Bool, true, false, not, cond, ◌&&◌, Option, Some, None}
use Rattle.rst_lex.specs.declared.token.Literal.{Literal}
use Rattle.rst_word.specs.declared.ops.UnaryOp.{UnaryOp}
use Rattle.rst_word.specs.declared.ops.UnaryOp.TheVariants as unary
use Rattle.rst_word.specs.declared.ops.BinaryOp.{BinaryOp}
use Rattle.rst_word.specs.declared.ops.BinaryOp.TheVariants as binary
use Rattle.rst_tree.specs.Trees.{Tree, Trees}
use Rattle.rst_tree.specs.Trees as tree
use Rattle.rst_tree.specs.Modules.{PlainRange}
use Rattle.rst_names.specs.Names.{same_text}

-- operators are told apart by numbers
abbrev pub unary_number : UnaryOp → ℕ
unary_number unary.Plus = 0
unary_number unary.Minus = 1
unary_number unary.Not = 2
unary_number unary.Invert = 3
unary_number unary.And = 4
unary_number unary.Nand = 5
unary_number unary.Or = 6
unary_number unary.Nor = 7
unary_number unary.Xor = 8
unary_number unary.Xnor = 9

abbrev pub binary_number : BinaryOp → ℕ
binary_number binary.Mul = 0
binary_number binary.Div = 1
binary_number binary.Rem = 2
binary_number binary.Add = 3
binary_number binary.Sub = 4
binary_number binary.Shl = 5
binary_number binary.Shr = 6
binary_number binary.ArithShl = 7
binary_number binary.ArithShr = 8
binary_number binary.Lt = 9
binary_number binary.Le = 10
binary_number binary.Gt = 11
binary_number binary.Ge = 12
binary_number binary.Eq = 13
binary_number binary.Ne = 14
binary_number binary.And = 15
binary_number binary.Xor = 16
binary_number binary.Xnor = 17
binary_number binary.Or = 18
binary_number binary.LogicAnd = 19
binary_number binary.LogicOr = 20

abbrev pub same_bool : Bool → Bool → Bool
same_bool a b = cond a b (not b)

abbrev pub same_literal : Literal → Literal → Bool
same_literal a b = nat_eq a.width b.width && (same_bool a.signed b.signed && (nat_eq a.value b.value && nat_eq a.mask b.mask))

abbrev mutual
  pub same_tree : Tree → Tree → Bool
  same_tree (tree.Number a) (tree.Number b) = same_literal a b
  same_tree (tree.Name a) (tree.Name b) = same_text a b
  same_tree (tree.Bit m i) (tree.Bit n j) = same_text m n && same_tree i j
  same_tree (tree.Part m g k) (tree.Part n h l) = same_text m n && (same_tree g h && same_tree k l)
  same_tree (tree.Paren a) (tree.Paren b) = same_tree a b
  same_tree (tree.Unary o a) (tree.Unary p b) = nat_eq (unary_number o) (unary_number p) && same_tree a b
  same_tree (tree.Binary o a c) (tree.Binary p b d) = nat_eq (binary_number o) (binary_number p) && (same_tree a b && same_tree c d)
  same_tree (tree.Choose c a e) (tree.Choose d b f) = same_tree c d && (same_tree a b && same_tree e f)
  same_tree (tree.Join xs) (tree.Join ys) = same_trees xs ys
  same_tree (tree.Repeat m xs) (tree.Repeat n ys) = same_tree m n && same_trees xs ys
  same_tree (tree.Signed a) (tree.Signed b) = same_tree a b
  same_tree (tree.Unsigned a) (tree.Unsigned b) = same_tree a b
  same_tree _ _ = false

  pub same_trees : Trees → Trees → Bool
  same_trees tree.end tree.end = true
  same_trees (tree.more x xs) (tree.more y ys) = same_tree x y && same_trees xs ys
  same_trees _ _ = false

-- The same range, or none on both sides.
abbrev pub same_range : Option PlainRange → Option PlainRange → Bool
same_range None None = true
same_range (Some r) (Some s) = same_tree r.high s.high && same_tree r.low s.low
same_range _ _ = false
