-- The grammar of expressions: which symbols spell which tree.
use Rattle.std.specs.Prelude.{◌≡◌, ℕ, ◌<◌, ◌≤◌, List, Option, Some, None}
use Rattle.rst_word.specs.declared.ops.UnaryOp.{UnaryOp}
use Rattle.rst_word.specs.declared.ops.UnaryOp.TheVariants as unary
use Rattle.rst_word.specs.declared.ops.BinaryOp.{BinaryOp}
use Rattle.rst_word.specs.declared.ops.BinaryOp.TheVariants as binary
use Rattle.rst_tree.specs.Trees.{Tree, Trees, Number, Name, Bit, Part, Paren, Unary, Binary, Choose, Join, Repeat, Signed, Unsigned, end, more}
use Rattle.rst_grammar.specs.declared.symbol.Terminal.{Terminal}
use Rattle.rst_grammar.specs.declared.symbol.Terminal.TheVariants as terminal
use Rattle.rst_grammar.specs.declared.symbol.Symbol.{Symbol}
use Rattle.rst_grammar.specs.declared.symbol.Symbol.TheVariants as symbol
use Rattle.rst_grammar.specs.Says.{Nothing, One, ◌⊗◌, quoted, named}

-- the operator that a terminal is before an operand: + - ! ~ & ~& | ~| ^ ~^
abbrev pub unary_of : Terminal → Option UnaryOp
unary_of terminal.Plus = Some unary.Plus
unary_of terminal.Minus = Some unary.Minus
unary_of terminal.Bang = Some unary.Not
unary_of terminal.Tilde = Some unary.Invert
unary_of terminal.Amp = Some unary.And
unary_of terminal.TildeAmp = Some unary.Nand
unary_of terminal.Bar = Some unary.Or
unary_of terminal.TildeBar = Some unary.Nor
unary_of terminal.Caret = Some unary.Xor
unary_of terminal.TildeCaret = Some unary.Xnor
unary_of _ = None

-- the operator that a terminal is between two operands
abbrev pub binary_of : Terminal → Option BinaryOp
binary_of terminal.Star = Some binary.Mul
binary_of terminal.Slash = Some binary.Div
binary_of terminal.Percent = Some binary.Rem
binary_of terminal.Plus = Some binary.Add
binary_of terminal.Minus = Some binary.Sub
binary_of terminal.ShiftLeft = Some binary.Shl
binary_of terminal.ShiftRight = Some binary.Shr
binary_of terminal.ArithShiftLeft = Some binary.ArithShl
binary_of terminal.ArithShiftRight = Some binary.ArithShr
binary_of terminal.Less = Some binary.Lt
binary_of terminal.LessEqual = Some binary.Le
binary_of terminal.Greater = Some binary.Gt
binary_of terminal.GreaterEqual = Some binary.Ge
binary_of terminal.EqualEqual = Some binary.Eq
binary_of terminal.BangEqual = Some binary.Ne
binary_of terminal.Amp = Some binary.And
binary_of terminal.Caret = Some binary.Xor
binary_of terminal.TildeCaret = Some binary.Xnor
binary_of terminal.Bar = Some binary.Or
binary_of terminal.AmpAmp = Some binary.LogicAnd
binary_of terminal.BarBar = Some binary.LogicOr
binary_of _ = None

-- how tightly a binary operator holds its operands (IEEE 1364-2001, table 10)
abbrev pub level : BinaryOp → ℕ
level binary.Mul = 10
level binary.Div = 10
level binary.Rem = 10
level binary.Add = 9
level binary.Sub = 9
level binary.Shl = 8
level binary.Shr = 8
level binary.ArithShl = 8
level binary.ArithShr = 8
level binary.Lt = 7
level binary.Le = 7
level binary.Gt = 7
level binary.Ge = 7
level binary.Eq = 6
level binary.Ne = 6
level binary.And = 5
level binary.Xor = 4
level binary.Xnor = 4
level binary.Or = 3
level binary.LogicAnd = 2
level binary.LogicOr = 1

-- The level of a tree: a choice's is the loosest, 0, and a primary's the tightest, 12.
abbrev pub level_of : Tree → ℕ
level_of (Choose c a b) = 0
level_of (Binary op a b) = level op
level_of (Unary op e) = 11
level_of _ = 12

-- a symbol that is an operator before an operand, or between two
pub record IsUnary (op : UnaryOp) (ts : List Symbol) : Type 0 where
  pub mark : Terminal
  pub operator : unary_of mark ≡ Some op
  pub is : quoted mark ts

pub record IsBinary (op : BinaryOp) (ts : List Symbol) : Type 0 where
  pub mark : Terminal
  pub operator : binary_of mark ≡ Some op
  pub is : quoted mark ts

abbrev mutual
  pub Spells : Tree → List Symbol → Type 0
  -- NUM, without masked bits
  Spells (Number n) ts = (n.mask ≡ 0) × One (symbol.Number n) ts
  -- ID
  Spells (Name n) ts = named n ts
  -- ID "[" expr "]"
  Spells (Bit n i) ts = (named n ⊗ quoted terminal.OpenBracket ⊗ Spells i ⊗ quoted terminal.CloseBracket) ts
  -- ID "[" expr ":" expr "]"
  Spells (Part n h l) ts = (named n ⊗ quoted terminal.OpenBracket ⊗ Spells h ⊗ quoted terminal.Colon ⊗ Spells l ⊗ quoted terminal.CloseBracket) ts
  -- "(" expr ")"
  Spells (Paren e) ts = (quoted terminal.OpenParen ⊗ Spells e ⊗ quoted terminal.CloseParen) ts
  -- an operator before an operand, which may be repeated
  Spells (Unary op e) ts = (11 ≤ level_of e) × (IsUnary op ⊗ Spells e) ts
  -- binary operators, which group to the left
  Spells (Binary op a b) ts = (level op ≤ level_of a) × (level op < level_of b) × (Spells a ⊗ IsBinary op ⊗ Spells b) ts
  -- expr "?" expr ":" expr, which groups to the right
  Spells (Choose c a b) ts = (0 < level_of c) × (Spells c ⊗ quoted terminal.Question ⊗ Spells a ⊗ quoted terminal.Colon ⊗ Spells b) ts
  -- "{" expr { "," expr } "}"
  Spells (Join es) ts = (quoted terminal.OpenBrace ⊗ SpellsAll es ⊗ quoted terminal.CloseBrace) ts
  -- "{" expr "{" expr { "," expr } "}" "}"
  Spells (Repeat n es) ts = (quoted terminal.OpenBrace ⊗ Spells n ⊗ quoted terminal.OpenBrace ⊗ SpellsAll es ⊗ quoted terminal.CloseBrace ⊗ quoted terminal.CloseBrace) ts
  -- "$signed" "(" expr ")"
  Spells (Signed e) ts = (quoted terminal.SystemSigned ⊗ quoted terminal.OpenParen ⊗ Spells e ⊗ quoted terminal.CloseParen) ts
  -- "$unsigned" "(" expr ")"
  Spells (Unsigned e) ts = (quoted terminal.SystemUnsigned ⊗ quoted terminal.OpenParen ⊗ Spells e ⊗ quoted terminal.CloseParen) ts

  -- expr { "," expr }
  pub SpellsAll : Trees → List Symbol → Type 0
  SpellsAll end ts = ⊥
  SpellsAll (more e es) ts = (Spells e ⊗ SpellsMore es) ts

  -- { "," expr }
  pub SpellsMore : Trees → List Symbol → Type 0
  SpellsMore end ts = Nothing ts
  SpellsMore (more e es) ts = (quoted terminal.Comma ⊗ Spells e ⊗ SpellsMore es) ts
