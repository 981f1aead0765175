-- The grammar of a module's items (IEEE 1364-2001, annex A.1.5, narrowed).
use Rattle.std.specs.Prelude.{List}
use Rattle.rst_tree.specs.declared.module.Event.{Event}
use Rattle.rst_tree.specs.declared.module.EdgeKind.{EdgeKind}
use Rattle.rst_tree.specs.declared.module.EdgeKind.TheVariants as edge
use Rattle.rst_tree.specs.Modules.{PlainAssign, PlainEvents, Any, OneOf, PlainItem, Port, Net, Params, Assigns, AlwaysBlock, Instances}
use Rattle.rst_grammar.specs.declared.symbol.Terminal.TheVariants as terminal
use Rattle.rst_grammar.specs.declared.symbol.Symbol.{Symbol}
use Rattle.rst_grammar.specs.Says.{Nothing, ◌⊗◌, quoted, named}
use Rattle.rst_grammar.specs.Expressions.{Spells}
use Rattle.rst_grammar.specs.Targets.{SpellsTarget}
use Rattle.rst_grammar.specs.Statements.{SpellsStmt}
use Rattle.rst_grammar.specs.Productions.{ProductionOf, Separated, Listed}
use Rattle.rst_grammar.specs.Declarations.{SpellsPortDecl, SpellsNetDecl, SpellsParamDecl}
use Rattle.rst_grammar.specs.Links.{SpellsInstance}

-- target "=" expr
abbrev pub SpellsAssign : ProductionOf PlainAssign
SpellsAssign a ts = (SpellsTarget a.target ⊗ quoted terminal.Equal ⊗ Spells a.value) ts

-- [ "posedge" | "negedge" ]
abbrev pub SpellsEdge : ProductionOf EdgeKind
SpellsEdge edge.Level ts = Nothing ts
SpellsEdge edge.Rising ts = quoted terminal.Posedge ts
SpellsEdge edge.Falling ts = quoted terminal.Negedge ts

-- event = [ "posedge" | "negedge" ] ID
abbrev pub SpellsEvent : ProductionOf Event
SpellsEvent e ts = (SpellsEdge e.edge ⊗ named e.name) ts

-- "or" | ","
pub data OrComma (ts : List Symbol) : Type 0 where
  or : quoted terminal.Or ts → OrComma ts
  comma : quoted terminal.Comma ts → OrComma ts

-- "*" | "(" "*" ")"
pub data SpellsAny (ts : List Symbol) : Type 0 where
  star : quoted terminal.Star ts → SpellsAny ts
  star_inside : (quoted terminal.OpenParen ⊗ quoted terminal.Star ⊗ quoted terminal.CloseParen) ts → SpellsAny ts

-- what stands behind "@": "*" | "(" "*" ")" | "(" event { ( "or" | "," ) event } ")"
abbrev pub SpellsControl : ProductionOf PlainEvents
SpellsControl Any ts = SpellsAny ts
SpellsControl (OneOf es) ts = (quoted terminal.OpenParen ⊗ Separated OrComma SpellsEvent es ⊗ quoted terminal.CloseParen) ts

-- events = "@" "*" | "@" "(" "*" ")" | "@" "(" event { ( "or" | "," ) event } ")"
abbrev pub SpellsEvents : ProductionOf PlainEvents
SpellsEvents e ts = (quoted terminal.At ⊗ SpellsControl e) ts

abbrev pub SpellsItem : ProductionOf PlainItem
-- pport ";"
SpellsItem (Port d) ts = (SpellsPortDecl d ⊗ quoted terminal.Semicolon) ts
-- ( "wire" | "reg" ) .. ";"
SpellsItem (Net d) ts = SpellsNetDecl d ts
-- ( "parameter" | "localparam" ) .. ";"
SpellsItem (Params d) ts = (SpellsParamDecl d ⊗ quoted terminal.Semicolon) ts
-- "assign" target "=" expr { "," target "=" expr } ";"
SpellsItem (Assigns as') ts = (quoted terminal.Assign ⊗ Listed SpellsAssign as' ⊗ quoted terminal.Semicolon) ts
-- "always" events stmt
SpellsItem (AlwaysBlock a) ts = (quoted terminal.Always ⊗ SpellsEvents a.events ⊗ SpellsStmt a.body) ts
-- ID [ "#" "(" links ")" ] ID "(" [ links ] ")" { "," ID "(" [ links ] ")" } ";"
SpellsItem (Instances i) ts = SpellsInstance i ts
