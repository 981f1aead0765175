-- The grammar of statements.
use Rattle.std.specs.Prelude.{◌≡◌, ℕ, ◌≤◌, List, Bool, true, false}
use Rattle.rst_tree.specs.Trees.{Tree, Trees, Number}
use Rattle.rst_tree.specs.Trees as trees
use Rattle.rst_tree.specs.Statements.{Statement, Statements, Arms, Block, If, IfElse, Case, Set, Empty, end, more, no_arm, labels, otherwise}
use Rattle.rst_tree.specs.WellFormed.{HasArm, defaults}
use Rattle.rst_grammar.specs.declared.symbol.Terminal.{Terminal}
use Rattle.rst_grammar.specs.declared.symbol.Terminal.TheVariants as terminal
use Rattle.rst_grammar.specs.declared.symbol.Symbol.{Symbol}
use Rattle.rst_grammar.specs.declared.symbol.Symbol.TheVariants as symbol
use Rattle.rst_grammar.specs.Says.{Nothing, One, ◌⊗◌, quoted, named}
use Rattle.rst_grammar.specs.Expressions.{Spells}
use Rattle.rst_grammar.specs.Targets.{SpellsTarget}

-- the statement ends in an `if` that lacks an `else`
abbrev pub ends_open : Statement → Bool
ends_open (If c s) = true
ends_open (IfElse c s t) = ends_open t
ends_open _ = false

-- `=` is a blocking assignment, `<=` a nonblocking one
abbrev pub assignment : Bool → Terminal
assignment true = terminal.Equal
assignment false = terminal.LessEqual

abbrev pub case_word : Bool → Terminal
case_word true = terminal.Casez
case_word false = terminal.Case

-- [ ":" ID ]
pub data MayBeNamed (ts : List Symbol) : Type 0 where
  unnamed : Nothing ts → MayBeNamed ts
  with_name : (n : List ℕ) → (quoted terminal.Colon ⊗ named n) ts → MayBeNamed ts

-- [ ":" ]
pub data MayBeColon (ts : List Symbol) : Type 0 where
  no_colon : Nothing ts → MayBeColon ts
  colon : quoted terminal.Colon ts → MayBeColon ts

-- a label: an expression or, under `casez`, one literal, which may have masked bits
abbrev pub SpellsLabel : Bool → Tree → List Symbol → Type 0
SpellsLabel true (Number n) ts = One (symbol.Number n) ts
SpellsLabel wild e ts = Spells e ts

-- { "," label }
abbrev pub SpellsMoreLabels : Bool → Trees → List Symbol → Type 0
SpellsMoreLabels wild trees.end ts = Nothing ts
SpellsMoreLabels wild (trees.more e es) ts = (quoted terminal.Comma ⊗ SpellsLabel wild e ⊗ SpellsMoreLabels wild es) ts

-- label { "," label }
abbrev pub SpellsLabels : Bool → Trees → List Symbol → Type 0
SpellsLabels wild trees.end ts = ⊥
SpellsLabels wild (trees.more e es) ts = (SpellsLabel wild e ⊗ SpellsMoreLabels wild es) ts

abbrev mutual
  pub SpellsStmt : Statement → List Symbol → Type 0
  -- "begin" [ ":" ID ] { stmt } "end"
  SpellsStmt (Block ss) ts = (quoted terminal.Begin ⊗ MayBeNamed ⊗ SpellsStmts ss ⊗ quoted terminal.End) ts
  -- "if" "(" expr ")" stmt
  SpellsStmt (If c s) ts = (quoted terminal.If ⊗ quoted terminal.OpenParen ⊗ Spells c ⊗ quoted terminal.CloseParen ⊗ SpellsStmt s) ts
  -- "if" "(" expr ")" stmt "else" stmt: the `else` belongs to the nearest `if` that lacks one
  SpellsStmt (IfElse c s t) ts = (ends_open s ≡ false)
      × (quoted terminal.If ⊗ quoted terminal.OpenParen ⊗ Spells c ⊗ quoted terminal.CloseParen ⊗ SpellsStmt s ⊗ quoted terminal.Else ⊗ SpellsStmt t) ts
  -- ( "case" | "casez" ) "(" expr ")" arm { arm } "endcase", with at most one default
  SpellsStmt (Case wild e arms) ts = HasArm arms × (defaults arms ≤ 1)
      × (quoted (case_word wild) ⊗ quoted terminal.OpenParen ⊗ Spells e ⊗ quoted terminal.CloseParen ⊗ SpellsArms arms wild ⊗ quoted terminal.Endcase) ts
  -- target ( "=" | "<=" ) expr ";"
  SpellsStmt (Set t e blocking) ts = (SpellsTarget t ⊗ quoted (assignment blocking) ⊗ Spells e ⊗ quoted terminal.Semicolon) ts
  -- ";"
  SpellsStmt Empty ts = quoted terminal.Semicolon ts

  -- { stmt }
  pub SpellsStmts : Statements → List Symbol → Type 0
  SpellsStmts end ts = Nothing ts
  SpellsStmts (more s ss) ts = (SpellsStmt s ⊗ SpellsStmts ss) ts

  -- { arm }
  pub SpellsArms : Arms → Bool → List Symbol → Type 0
  SpellsArms no_arm wild ts = Nothing ts
  -- label { "," label } ":" stmt
  SpellsArms (labels es s others) wild ts = (SpellsLabels wild es ⊗ quoted terminal.Colon ⊗ SpellsStmt s ⊗ SpellsArms others wild) ts
  -- "default" [ ":" ] stmt
  SpellsArms (otherwise s others) wild ts = (quoted terminal.Default ⊗ MayBeColon ⊗ SpellsStmt s ⊗ SpellsArms others wild) ts
