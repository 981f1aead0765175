-- The grammar of modules (IEEE 1364-2001, annex A.1.3, narrowed).
use Rattle.std.specs.Prelude.{◌≡◌, List, [], ◌∷◌, false}
use Rattle.rst_tree.specs.Modules.{PlainParamDecl, PlainHeader, Plain, Full, PlainModule}
use Rattle.rst_grammar.specs.declared.symbol.Terminal.TheVariants as terminal
use Rattle.rst_grammar.specs.declared.symbol.Symbol.{Symbol}
use Rattle.rst_grammar.specs.Says.{Nothing, ◌⊗◌, quoted, named}
use Rattle.rst_grammar.specs.Productions.{ProductionOf, Listed, Repeated}
use Rattle.rst_grammar.specs.Declarations.{SpellsPortDecl, SpellsParamDecl}
use Rattle.rst_grammar.specs.Items.{SpellsItem}

-- pgroup = "parameter" [ "signed" ] [ range ] passign { "," passign }
abbrev pub SpellsGroup : ProductionOf PlainParamDecl
SpellsGroup d ts = (d.local ≡ false) × SpellsParamDecl d ts

-- [ "#" "(" pgroup { "," pgroup } ")" ]
abbrev pub SpellsHeaderParams : ProductionOf (List PlainParamDecl)
SpellsHeaderParams [] ts = Nothing ts
SpellsHeaderParams (d ∷ groups) ts = (quoted terminal.Hash ⊗ quoted terminal.OpenParen ⊗ Listed SpellsGroup (d ∷ groups) ⊗ quoted terminal.CloseParen) ts

-- no ports: [ "(" ")" ]
pub data NoPorts (ts : List Symbol) : Type 0 where
  no_parens : Nothing ts → NoPorts ts
  empty_parens : (quoted terminal.OpenParen ⊗ quoted terminal.CloseParen) ts → NoPorts ts

-- [ "(" [ ports ] ")" ], where ports = ID { "," ID } | pport { "," pport }
abbrev pub SpellsHeader : ProductionOf PlainHeader
SpellsHeader (Plain []) ts = NoPorts ts
SpellsHeader (Plain (n ∷ names)) ts = (quoted terminal.OpenParen ⊗ Listed named (n ∷ names) ⊗ quoted terminal.CloseParen) ts
SpellsHeader (Full ports) ts = (quoted terminal.OpenParen ⊗ Listed SpellsPortDecl ports ⊗ quoted terminal.CloseParen) ts

-- module = "module" ID [ "#" "(" pgroup { "," pgroup } ")" ] [ "(" [ ports ] ")" ] ";" { item } "endmodule"
abbrev pub SpellsModule : ProductionOf PlainModule
SpellsModule m ts = (quoted terminal.Module ⊗ named m.name ⊗ SpellsHeaderParams m.params ⊗ SpellsHeader m.header ⊗ quoted terminal.Semicolon ⊗ Repeated SpellsItem m.items ⊗ quoted terminal.Endmodule) ts
