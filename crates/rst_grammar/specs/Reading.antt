-- Reading expressions from left to right, below a height. These functions are what the code computes; the grammar itself
-- is in Expressions.
use Rattle.std.specs.Prelude.{ℕ, zero, suc, ◌+◌, length, List, [], ◌∷◌, Option, Some, None, option_and_then, nat_le, nat_eq, if◌then◌else◌}
use Rattle.rst_lex.specs.declared.token.Literal.{Literal}
use Rattle.rst_word.specs.declared.ops.BinaryOp.{BinaryOp}
use Rattle.rst_tree.specs.Trees.{Tree, Trees, Number, Name, Bit, Part, Paren, Unary, Binary, Choose, Join, Repeat, Signed, Unsigned, end, more, height}
use Rattle.rst_grammar.specs.declared.symbol.Terminal.{Terminal}
use Rattle.rst_grammar.specs.declared.symbol.Terminal.TheVariants as terminal
use Rattle.rst_grammar.specs.declared.symbol.Symbol.{Symbol}
use Rattle.rst_grammar.specs.declared.symbol.Symbol.TheVariants as symbol
use Rattle.rst_grammar.specs.Expressions.{unary_of, binary_of, level}

infixl 10 ◌>>=◌
abbrev pub ◌>>=◌ : {A B : Type 0} → Option A → (A → Option B) → Option B
o >>= f = option_and_then f o

-- a number for each terminal, by which two are compared
abbrev pub number_of : Terminal → ℕ
number_of terminal.OpenParen = 0
number_of terminal.CloseParen = 1
number_of terminal.OpenBracket = 2
number_of terminal.CloseBracket = 3
number_of terminal.OpenBrace = 4
number_of terminal.CloseBrace = 5
number_of terminal.Comma = 6
number_of terminal.Semicolon = 7
number_of terminal.Colon = 8
number_of terminal.Dot = 9
number_of terminal.Hash = 10
number_of terminal.At = 11
number_of terminal.Equal = 12
number_of terminal.Question = 13
number_of terminal.Plus = 14
number_of terminal.Minus = 15
number_of terminal.Bang = 16
number_of terminal.Tilde = 17
number_of terminal.Amp = 18
number_of terminal.Bar = 19
number_of terminal.Caret = 20
number_of terminal.Star = 21
number_of terminal.Slash = 22
number_of terminal.Percent = 23
number_of terminal.Less = 24
number_of terminal.Greater = 25
number_of terminal.ShiftLeft = 26
number_of terminal.ShiftRight = 27
number_of terminal.ArithShiftLeft = 28
number_of terminal.ArithShiftRight = 29
number_of terminal.LessEqual = 30
number_of terminal.GreaterEqual = 31
number_of terminal.EqualEqual = 32
number_of terminal.BangEqual = 33
number_of terminal.AmpAmp = 34
number_of terminal.BarBar = 35
number_of terminal.TildeAmp = 36
number_of terminal.TildeBar = 37
number_of terminal.TildeCaret = 38
number_of terminal.Module = 39
number_of terminal.Endmodule = 40
number_of terminal.Input = 41
number_of terminal.Output = 42
number_of terminal.Wire = 43
number_of terminal.Reg = 44
number_of terminal.Signed = 45
number_of terminal.Parameter = 46
number_of terminal.Localparam = 47
number_of terminal.Assign = 48
number_of terminal.Always = 49
number_of terminal.Posedge = 50
number_of terminal.Negedge = 51
number_of terminal.Or = 52
number_of terminal.Begin = 53
number_of terminal.End = 54
number_of terminal.If = 55
number_of terminal.Else = 56
number_of terminal.Case = 57
number_of terminal.Casez = 58
number_of terminal.Default = 59
number_of terminal.Endcase = 60
number_of terminal.SystemSigned = 61
number_of terminal.SystemUnsigned = 62

-- the symbols behind this terminal, where it stands in front
abbrev pub after : Terminal → List Symbol → Option (List Symbol)
after t (symbol.Terminal s ∷ rest) = if nat_eq (number_of s) (number_of t) then Some rest else None
after t _ = None

-- a tree, and the symbols after it
abbrev pub Reader : Type 0
Reader = List Symbol → Option (Tree × List Symbol)

abbrev pub ListReader : Type 0
ListReader = List Symbol → Option (Trees × List Symbol)

-- the readers of trees up to a height
pub record Readers : Type 0 where
  pub operand : Reader
  pub binary : ℕ → Reader
  pub full : Reader

-- one of two, by an option
abbrev pub cases : {A B : Type 0} → Option A → B → (A → B) → B
cases None none some = none
cases (Some x) none some = some x

-- behind a name: a select, or nothing
unfoldable pub part_end : Readers → List ℕ → Tree → List Symbol → Option (Tree × List Symbol)
part_end below n high rest = do
  low ← below.full rest
  behind ← after terminal.CloseBracket low.1
  Some (Part n high low.0, behind)

unfoldable pub select_end : Readers → List ℕ → Tree → List Symbol → Option (Tree × List Symbol)
select_end below n index (symbol.Terminal terminal.CloseBracket ∷ rest) = Some (Bit n index, rest)
select_end below n index (symbol.Terminal terminal.Colon ∷ rest) = part_end below n index rest
select_end below n index _ = None

unfoldable pub named_in : Readers → List ℕ → List Symbol → Option (Tree × List Symbol)
named_in below n (symbol.Terminal terminal.OpenBracket ∷ rest) = below.full rest >>= λ index. select_end below n index.0 index.1
named_in below n rest = Some (Name n, rest)

unfoldable pub paren_in : Readers → Reader
paren_in below rest = do
  e ← below.full rest
  behind ← after terminal.CloseParen e.1
  Some (Paren e.0, behind)

-- behind `$signed` or `$unsigned`
unfoldable pub signed_in : Readers → Reader
signed_in below rest = do
  inner ← after terminal.OpenParen rest
  e ← below.full inner
  behind ← after terminal.CloseParen e.1
  Some (Signed e.0, behind)

unfoldable pub unsigned_in : Readers → Reader
unsigned_in below rest = do
  inner ← after terminal.OpenParen rest
  e ← below.full inner
  behind ← after terminal.CloseParen e.1
  Some (Unsigned e.0, behind)

unfoldable pub unary_in : Readers → Terminal → Reader
unary_in below first rest = do
  op ← unary_of first
  e ← below.operand rest
  Some (Unary op e.0, e.1)

-- a comma and a tree, at most this many times
unfoldable pub more_in : Readers → ℕ → ListReader
more_in below zero rest = Some (end, rest)
more_in below (suc most) (symbol.Terminal terminal.Comma ∷ rest) = do
  first ← below.full rest
  others ← more_in below most first.1
  Some (more first.0 others.0, others.1)
more_in below (suc most) rest = Some (end, rest)

-- a list from its first tree on
unfoldable pub list_from : Readers → Tree → ListReader
list_from below first rest = do
  others ← more_in below (length rest) rest
  Some (more first others.0, others.1)

unfoldable pub repeat_in : Readers → Tree → Reader
repeat_in below count rest = do
  first ← below.full rest
  all ← list_from below first.0 first.1
  behind ← after terminal.CloseBrace all.1
  outside ← after terminal.CloseBrace behind
  Some (Repeat count all.0, outside)

unfoldable pub join_in : Readers → Tree → Reader
join_in below first rest = do
  all ← list_from below first rest
  behind ← after terminal.CloseBrace all.1
  Some (Join all.0, behind)

unfoldable pub braces_end : Readers → Tree → Reader
braces_end below first (symbol.Terminal terminal.OpenBrace ∷ rest) = repeat_in below first rest
braces_end below first rest = join_in below first rest

unfoldable pub braces_in : Readers → Reader
braces_in below rest = below.full rest >>= λ first. braces_end below first.0 first.1

unfoldable pub number_in : Literal → Reader
number_in n rest = if nat_eq n.mask 0 then Some (Number n, rest) else None

-- what begins with this terminal
unfoldable pub terminal_in : Readers → Terminal → Reader
terminal_in below terminal.OpenParen rest = paren_in below rest
terminal_in below terminal.OpenBrace rest = braces_in below rest
terminal_in below terminal.SystemSigned rest = signed_in below rest
terminal_in below terminal.SystemUnsigned rest = unsigned_in below rest
terminal_in below first rest = unary_in below first rest

-- a primary, or an operator before an operand
unfoldable pub operand_in : Readers → Reader
operand_in below [] = None
operand_in below (symbol.Number n ∷ rest) = number_in n rest
operand_in below (symbol.Name n ∷ rest) = named_in below n rest
operand_in below (symbol.Terminal t ∷ rest) = terminal_in below t rest

-- a binary operator of this level or a tighter one
unfoldable pub operator_at : ℕ → List Symbol → Option (BinaryOp × List Symbol)
operator_at least [] = None
operator_at least (symbol.Terminal first ∷ rest) = binary_of first >>= λ op. if nat_le least (level op) then Some (op, rest) else None
operator_at least (first ∷ rest) = None

-- an operator and its right operand behind a left one
unfoldable pub with_right : Readers → ℕ → BinaryOp → Tree → Reader
with_right below limit op left rest = if nat_le (height left) limit then (below.binary (level op + 1) rest >>= λ right. Some (Binary op left right.0, right.1)) else None

-- what follows a left operand, of at most this many operators
unfoldable pub tail_in : Readers → ℕ → ℕ → ℕ → Tree → Reader
tail_in below limit zero least left rest = None
tail_in below limit (suc most) least left rest =
    cases (operator_at least rest) (Some (left, rest)) (λ op. with_right below limit op.0 left op.1 >>= λ next. tail_in below limit most least next.0 next.1)

unfoldable pub binary_in : Readers → ℕ → ℕ → Reader
binary_in below limit least ts = operand_in below ts >>= λ left. tail_in below limit (suc limit) least left.0 left.1

unfoldable pub choice_in : Readers → Tree → Reader
choice_in below test rest = do
  first ← below.full rest
  behind ← after terminal.Colon first.1
  second ← below.full behind
  Some (Choose test first.0 second.0, second.1)

unfoldable pub choice_end : Readers → ℕ → Tree → Reader
choice_end below limit test (symbol.Terminal terminal.Question ∷ rest) = if nat_le (height test) limit then choice_in below test rest else None
choice_end below limit test rest = Some (test, rest)

unfoldable pub full_in : Readers → ℕ → Reader
full_in below limit ts = binary_in below limit 1 ts >>= λ test. choice_end below limit test.0 test.1

-- the readers one higher
unfoldable pub higher : Readers → ℕ → Readers
higher below limit = record { operand = operand_in below; binary = binary_in below limit; full = full_in below limit }

unfoldable pub readers : ℕ → Readers
readers zero = record { operand = λ ts. None; binary = λ least ts. None; full = λ ts. None }
readers (suc limit) = higher (readers limit) limit
