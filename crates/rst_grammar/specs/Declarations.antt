-- The grammar of declarations: ranges, ports, nets and parameters (IEEE 1364-2001, annex A.2, narrowed).
use Rattle.std.specs.Prelude.{◌≡◌, List, map, Bool, true, false, Option, Some, None}
use Rattle.rst_tree.specs.Trees.{Text, Tree}
use Rattle.rst_tree.specs.Modules.{PlainRange, PlainPortDecl, PlainParamName, PlainParamDecl, PlainNetName, PlainNetDecl}
use Rattle.rst_grammar.specs.declared.symbol.Terminal.{Terminal}
use Rattle.rst_grammar.specs.declared.symbol.Terminal.TheVariants as terminal
use Rattle.rst_grammar.specs.declared.symbol.Symbol.{Symbol}
use Rattle.rst_grammar.specs.Says.{Nothing, ◌⊗◌, quoted, named}
use Rattle.rst_grammar.specs.Expressions.{Spells}
use Rattle.rst_grammar.specs.Productions.{ProductionOf, Optional, Flag, Listed}

-- range = "[" expr ":" expr "]"
abbrev pub SpellsRange : ProductionOf PlainRange
SpellsRange r ts = (quoted terminal.OpenBracket ⊗ Spells r.high ⊗ quoted terminal.Colon ⊗ Spells r.low ⊗ quoted terminal.CloseBracket) ts

-- dir = "input" | "output"
abbrev pub direction : Bool → Terminal
direction true = terminal.Input
direction false = terminal.Output

-- [ "wire" | "reg" ]
pub data MayBeWire (ts : List Symbol) : Type 0 where
  no_kind : Nothing ts → MayBeWire ts
  wire : quoted terminal.Wire ts → MayBeWire ts

abbrev pub SpellsKind : ProductionOf Bool
SpellsKind true ts = quoted terminal.Reg ts
SpellsKind false ts = MayBeWire ts

-- pport = dir [ "wire" | "reg" ] [ "signed" ] [ range ] ID { "," ID }
abbrev pub SpellsPortDecl : ProductionOf PlainPortDecl
SpellsPortDecl d ts = (quoted (direction d.input) ⊗ SpellsKind d.reg ⊗ Flag terminal.Signed d.signed ⊗ Optional SpellsRange d.range ⊗ Listed named d.names) ts

-- passign = ID "=" expr
abbrev pub SpellsParamName : ProductionOf PlainParamName
SpellsParamName n ts = (named n.name ⊗ quoted terminal.Equal ⊗ Spells n.value) ts

-- "parameter" | "localparam"
abbrev pub parameter_word : Bool → Terminal
parameter_word true = terminal.Localparam
parameter_word false = terminal.Parameter

-- ( "parameter" | "localparam" ) [ "signed" ] [ range ] passign { "," passign }: sign and range hold for all names
abbrev pub SpellsParamDecl : ProductionOf PlainParamDecl
SpellsParamDecl d ts = (quoted (parameter_word d.local) ⊗ Flag terminal.Signed d.signed ⊗ Optional SpellsRange d.range ⊗ Listed SpellsParamName d.names) ts

-- "wire" | "reg"
abbrev pub net_word : Bool → Terminal
net_word true = terminal.Reg
net_word false = terminal.Wire

-- [ "=" expr ] for a wire, nothing for a reg
abbrev pub SpellsNetValue : Bool → ProductionOf (Option Tree)
SpellsNetValue reg None ts = Nothing ts
SpellsNetValue false (Some e) ts = (quoted terminal.Equal ⊗ Spells e) ts
SpellsNetValue true (Some e) ts = ⊥

-- ID [ "=" expr ] for a wire, ID for a reg
abbrev pub SpellsNetName : Bool → ProductionOf PlainNetName
SpellsNetName reg n ts = (named n.name ⊗ SpellsNetValue reg n.value) ts

-- "wire" [ "signed" ] [ range ] ID [ "=" expr ] { "," ID [ "=" expr ] } ";"
-- "reg" [ "signed" ] [ range ] ID { "," ID } ";"
abbrev pub SpellsNetDecl : ProductionOf PlainNetDecl
SpellsNetDecl d ts = (quoted (net_word d.reg) ⊗ Flag terminal.Signed d.signed ⊗ Optional SpellsRange d.range ⊗ Listed (SpellsNetName d.reg) d.names ⊗ quoted terminal.Semicolon) ts
