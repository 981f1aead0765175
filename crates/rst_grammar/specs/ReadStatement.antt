-- Reading targets and statements from left to right, below a height.
use Rattle.std.specs.Prelude.{ℕ, zero, suc, length, List, [], ◌∷◌, Bool, true, false, Option, Some, None, nat_eq, if◌then◌else◌}
use Rattle.rst_lex.specs.declared.token.Literal.{Literal}
use Rattle.rst_tree.specs.Trees.{Tree, Trees, Number}
use Rattle.rst_tree.specs.Trees as trees
use Rattle.rst_tree.specs.Targets.{Place, Places}
use Rattle.rst_tree.specs.Targets as targets
use Rattle.rst_tree.specs.Statements.{Statement, Statements, Arms, Block, If, IfElse, Case, Set, Empty, end, more, no_arm, labels, otherwise}
use Rattle.rst_grammar.specs.declared.symbol.Terminal.{Terminal}
use Rattle.rst_grammar.specs.declared.symbol.Terminal.TheVariants as terminal
use Rattle.rst_grammar.specs.declared.symbol.Symbol.{Symbol}
use Rattle.rst_grammar.specs.declared.symbol.Symbol.TheVariants as symbol
use Rattle.rst_grammar.specs.Reading.{◌>>=◌, cases, after, Readers, readers}

abbrev pub TargetReader : Type 0
TargetReader = List Symbol → Option (Place × List Symbol)

abbrev pub StmtReader : Type 0
StmtReader = List Symbol → Option (Statement × List Symbol)

-- ---- targets

unfoldable pub target_part : Readers → List ℕ → Tree → TargetReader
target_part below n high rest = do
  low ← below.full rest
  behind ← after terminal.CloseBracket low.1
  Some (targets.Part n high low.0, behind)

unfoldable pub target_select : Readers → List ℕ → Tree → TargetReader
target_select below n index (symbol.Terminal terminal.CloseBracket ∷ rest) = Some (targets.Bit n index, rest)
target_select below n index (symbol.Terminal terminal.Colon ∷ rest) = target_part below n index rest
target_select below n index _ = None

unfoldable pub target_named : Readers → List ℕ → TargetReader
target_named below n (symbol.Terminal terminal.OpenBracket ∷ rest) = below.full rest >>= λ index. target_select below n index.0 index.1
target_named below n rest = Some (targets.Whole n, rest)

-- a comma and a target, at most this many times
unfoldable pub more_targets : TargetReader → ℕ → List Symbol → Option (Places × List Symbol)
more_targets target zero rest = Some (targets.end, rest)
more_targets target (suc most) (symbol.Terminal terminal.Comma ∷ rest) = do
  first ← target rest
  others ← more_targets target most first.1
  Some (targets.more first.0 others.0, others.1)
more_targets target (suc most) rest = Some (targets.end, rest)

unfoldable pub target_join : TargetReader → TargetReader
target_join target rest = do
  first ← target rest
  others ← more_targets target (length first.1) first.1
  behind ← after terminal.CloseBrace others.1
  Some (targets.Join (targets.more first.0 others.0), behind)

unfoldable pub target_in : Readers → TargetReader → TargetReader
target_in below target [] = None
target_in below target (symbol.Name n ∷ rest) = target_named below n rest
target_in below target (symbol.Terminal terminal.OpenBrace ∷ rest) = target_join target rest
target_in below target (s ∷ rest) = None

unfoldable pub target_reader : ℕ → TargetReader
target_reader zero = λ ts. None
target_reader (suc limit) = target_in (readers limit) (target_reader limit)

-- ---- statements

abbrev pub assignment_at : List Symbol → Option (Bool × List Symbol)
assignment_at (symbol.Terminal terminal.Equal ∷ rest) = Some (true, rest)
assignment_at (symbol.Terminal terminal.LessEqual ∷ rest) = Some (false, rest)
assignment_at _ = None

unfoldable pub set_in : Readers → TargetReader → StmtReader
set_in below target ts = do
  t ← target ts
  sign ← assignment_at t.1
  value ← below.full sign.1
  behind ← after terminal.Semicolon value.1
  Some (Set t.0 value.0 sign.0, behind)

unfoldable pub else_in : StmtReader → Tree → Statement → StmtReader
else_in stmt c s (symbol.Terminal terminal.Else ∷ rest) = stmt rest >>= λ t. Some (IfElse c s t.0, t.1)
else_in stmt c s rest = Some (If c s, rest)

unfoldable pub if_in : Readers → StmtReader → StmtReader
if_in below stmt rest = do
  inner ← after terminal.OpenParen rest
  c ← below.full inner
  behind ← after terminal.CloseParen c.1
  s ← stmt behind
  else_in stmt c.0 s.0 s.1

-- behind `begin`: a colon and a name, or nothing
abbrev pub behind_name : List Symbol → Option (List Symbol)
behind_name (symbol.Name n ∷ rest) = Some rest
behind_name _ = None

abbrev pub block_name : List Symbol → Option (List Symbol)
block_name (symbol.Terminal terminal.Colon ∷ rest) = behind_name rest
block_name ts = Some ts

-- up to `end`
unfoldable pub until_end : StmtReader → ℕ → List Symbol → Option (Statements × List Symbol)
until_end stmt zero rest = None
until_end stmt (suc most) (symbol.Terminal terminal.End ∷ rest) = Some (end, rest)
until_end stmt (suc most) rest = do
  s ← stmt rest
  others ← until_end stmt most s.1
  Some (more s.0 others.0, others.1)

unfoldable pub block_in : StmtReader → StmtReader
block_in stmt rest = do
  inner ← block_name rest
  ss ← until_end stmt (length inner) inner
  Some (Block ss.0, ss.1)

-- a literal with masked bits, under `casez`
abbrev pub masked_at : Bool → List Symbol → Option (Literal × List Symbol)
masked_at true (symbol.Number n ∷ rest) = if nat_eq n.mask 0 then None else Some (n, rest)
masked_at _ _ = None

unfoldable pub label_in : Readers → Bool → List Symbol → Option (Tree × List Symbol)
label_in below wild ts = cases (masked_at wild ts) (below.full ts) (λ m. Some (Number m.0, m.1))

-- a comma and a label, at most this many times
unfoldable pub more_labels : Readers → Bool → ℕ → List Symbol → Option (Trees × List Symbol)
more_labels below wild zero rest = Some (trees.end, rest)
more_labels below wild (suc most) (symbol.Terminal terminal.Comma ∷ rest) = do
  first ← label_in below wild rest
  others ← more_labels below wild most first.1
  Some (trees.more first.0 others.0, others.1)
more_labels below wild (suc most) rest = Some (trees.end, rest)

unfoldable pub labels_in : Readers → Bool → List Symbol → Option (Trees × List Symbol)
labels_in below wild ts = do
  first ← label_in below wild ts
  others ← more_labels below wild (length first.1) first.1
  Some (trees.more first.0 others.0, others.1)

-- behind `default`: a colon, or nothing
abbrev pub default_colon : List Symbol → List Symbol
default_colon (symbol.Terminal terminal.Colon ∷ rest) = rest
default_colon ts = ts

-- up to `endcase`, with at most this many arms and defaults
unfoldable pub arms_in : Readers → StmtReader → Bool → ℕ → ℕ → List Symbol → Option (Arms × List Symbol)
arms_in below stmt wild zero most_defaults rest = None
arms_in below stmt wild (suc most) most_defaults (symbol.Terminal terminal.Endcase ∷ rest) = Some (no_arm, rest)
arms_in below stmt wild (suc most) zero (symbol.Terminal terminal.Default ∷ rest) = None
arms_in below stmt wild (suc most) (suc most_defaults) (symbol.Terminal terminal.Default ∷ rest) = do
  s ← stmt (default_colon rest)
  others ← arms_in below stmt wild most most_defaults s.1
  Some (otherwise s.0 others.0, others.1)
arms_in below stmt wild (suc most) most_defaults rest = do
  es ← labels_in below wild rest
  behind ← after terminal.Colon es.1
  s ← stmt behind
  others ← arms_in below stmt wild most most_defaults s.1
  Some (labels es.0 s.0 others.0, others.1)

-- one arm at least
unfoldable pub some_arms : Readers → StmtReader → Bool → List Symbol → Option (Arms × List Symbol)
some_arms below stmt wild (symbol.Terminal terminal.Endcase ∷ rest) = None
some_arms below stmt wild rest = arms_in below stmt wild (length rest) 1 rest

unfoldable pub case_in : Readers → StmtReader → Bool → StmtReader
case_in below stmt wild rest = do
  inner ← after terminal.OpenParen rest
  e ← below.full inner
  behind ← after terminal.CloseParen e.1
  arms ← some_arms below stmt wild behind
  Some (Case wild e.0 arms.0, arms.1)

-- what begins with this terminal
unfoldable pub word_in : Readers → TargetReader → StmtReader → Terminal → StmtReader
word_in below target stmt terminal.Begin rest = block_in stmt rest
word_in below target stmt terminal.Semicolon rest = Some (Empty, rest)
word_in below target stmt terminal.If rest = if_in below stmt rest
word_in below target stmt terminal.Case rest = case_in below stmt false rest
word_in below target stmt terminal.Casez rest = case_in below stmt true rest
word_in below target stmt t rest = set_in below target (symbol.Terminal t ∷ rest)

unfoldable pub stmt_in : Readers → TargetReader → StmtReader → StmtReader
stmt_in below target stmt (symbol.Terminal t ∷ rest) = word_in below target stmt t rest
stmt_in below target stmt ts = set_in below target ts

unfoldable pub stmt_reader : ℕ → StmtReader
stmt_reader zero = λ ts. None
stmt_reader (suc limit) = stmt_in (readers limit) (target_reader limit) (stmt_reader limit)
