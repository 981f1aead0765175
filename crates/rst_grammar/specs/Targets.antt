-- The grammar of targets.
use Rattle.std.specs.Prelude.{List}
use Rattle.rst_tree.specs.Targets.{Place, Places, Whole, Bit, Part, Join, end, more}
use Rattle.rst_grammar.specs.declared.symbol.Terminal.TheVariants as terminal
use Rattle.rst_grammar.specs.declared.symbol.Symbol.{Symbol}
use Rattle.rst_grammar.specs.Says.{Nothing, ◌⊗◌, quoted, named}
use Rattle.rst_grammar.specs.Expressions.{Spells}

abbrev mutual
  pub SpellsTarget : Place → List Symbol → Type 0
  -- ID
  SpellsTarget (Whole n) ts = named n ts
  -- ID "[" expr "]"
  SpellsTarget (Bit n i) ts = (named n ⊗ quoted terminal.OpenBracket ⊗ Spells i ⊗ quoted terminal.CloseBracket) ts
  -- ID "[" expr ":" expr "]"
  SpellsTarget (Part n h l) ts = (named n ⊗ quoted terminal.OpenBracket ⊗ Spells h ⊗ quoted terminal.Colon ⊗ Spells l ⊗ quoted terminal.CloseBracket) ts
  -- "{" target { "," target } "}"
  SpellsTarget (Join es) ts = (quoted terminal.OpenBrace ⊗ SpellsTargets es ⊗ quoted terminal.CloseBrace) ts

  -- target { "," target }
  pub SpellsTargets : Places → List Symbol → Type 0
  SpellsTargets end ts = ⊥
  SpellsTargets (more e es) ts = (SpellsTarget e ⊗ SpellsMoreTargets es) ts

  -- { "," target }
  pub SpellsMoreTargets : Places → List Symbol → Type 0
  SpellsMoreTargets end ts = Nothing ts
  SpellsMoreTargets (more e es) ts = (quoted terminal.Comma ⊗ SpellsTarget e ⊗ SpellsMoreTargets es) ts
