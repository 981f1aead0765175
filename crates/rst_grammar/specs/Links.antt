-- The grammar of instances and their links (IEEE 1364-2001, annex A.4.1, narrowed).
use Rattle.std.specs.Prelude.{◌≡◌, List, [], ◌∷◌, None}
use Rattle.rst_tree.specs.Modules.{PlainLink, PlainLinks, Ordered, Named, PlainCopied, PlainInstance}
use Rattle.rst_grammar.specs.declared.symbol.Terminal.TheVariants as terminal
use Rattle.rst_grammar.specs.declared.symbol.Symbol.{Symbol}
use Rattle.rst_grammar.specs.Says.{Nothing, ◌⊗◌, quoted, named}
use Rattle.rst_grammar.specs.Expressions.{Spells}
use Rattle.rst_grammar.specs.Productions.{ProductionOf, Optional, Listed}

-- "." ID "(" [ expr ] ")"
abbrev pub SpellsLink : ProductionOf PlainLink
SpellsLink l ts = (quoted terminal.Dot ⊗ named l.name ⊗ quoted terminal.OpenParen ⊗ Optional Spells l.value ⊗ quoted terminal.CloseParen) ts

-- links = [ expr ] { "," [ expr ] } | "." ID "(" [ expr ] ")" { "," "." ID "(" [ expr ] ")" }
-- An empty pair of parentheses is an empty ordered list, and no list of one empty link.
abbrev pub SpellsLinks : ProductionOf PlainLinks
SpellsLinks (Ordered []) ts = Nothing ts
SpellsLinks (Ordered (None ∷ [])) ts = ⊥
SpellsLinks (Ordered es) ts = Listed (Optional Spells) es ts
SpellsLinks (Named ls) ts = Listed SpellsLink ls ts

-- [ "#" "(" links ")" ]: left out, it is an empty ordered list
pub data SpellsParamLinks (links : PlainLinks) (ts : List Symbol) : Type 0 where
  no_links : links ≡ Ordered [] → Nothing ts → SpellsParamLinks links ts
  some_links : (quoted terminal.Hash ⊗ quoted terminal.OpenParen ⊗ SpellsLinks links ⊗ quoted terminal.CloseParen) ts → SpellsParamLinks links ts

-- ID "(" [ links ] ")"
abbrev pub SpellsCopied : ProductionOf PlainCopied
SpellsCopied c ts = (named c.name ⊗ quoted terminal.OpenParen ⊗ SpellsLinks c.ports ⊗ quoted terminal.CloseParen) ts

-- ID [ "#" "(" links ")" ] ID "(" [ links ] ")" { "," ID "(" [ links ] ")" } ";"
abbrev pub SpellsInstance : ProductionOf PlainInstance
SpellsInstance i ts = (named i.of_module ⊗ SpellsParamLinks i.params ⊗ Listed SpellsCopied i.copies ⊗ quoted terminal.Semicolon) ts
