-- Reading modules from left to right.
use Rattle.std.specs.Prelude.{ℕ, length, List, [], ◌∷◌, false, Some}
use Rattle.rst_tree.specs.Trees.{Text}
use Rattle.rst_tree.specs.Modules.{PlainParamDecl, PlainHeader, Plain, Full, PlainItem, PlainModule}
use Rattle.rst_grammar.specs.declared.symbol.Terminal.TheVariants as terminal
use Rattle.rst_grammar.specs.declared.symbol.Symbol.TheVariants as symbol
use Rattle.rst_grammar.specs.Reading.{cases, after}
use Rattle.rst_grammar.specs.ReadParts.{ReaderOf, name_in, mapped, both, behind, up_to, separated, comma, until}
use Rattle.rst_grammar.specs.ReadDeclarations.{names_in, port_decl_in, param_decl_in}
use Rattle.rst_grammar.specs.ReadItems.{item_in}

-- groups of parameters with commas between them
unfoldable pub groups_in : ℕ → ReaderOf (List PlainParamDecl)
groups_in limit = separated comma (param_decl_in false limit)

-- [ "#" "(" pgroup { "," pgroup } ")" ]
unfoldable pub header_params_in : ℕ → ReaderOf (List PlainParamDecl)
header_params_in limit ts = cases (after terminal.Hash ts) (Some ([], ts)) (λ rest. behind terminal.OpenParen (up_to terminal.CloseParen (groups_in limit)) rest)

-- what stands in the parentheses of a header, and the closing one
unfoldable pub ports_in : ℕ → ReaderOf PlainHeader
ports_in limit (symbol.Terminal terminal.CloseParen ∷ rest) = Some (Plain [], rest)
ports_in limit (symbol.Name n ∷ rest) = mapped Plain (up_to terminal.CloseParen names_in) (symbol.Name n ∷ rest)
ports_in limit ts = mapped Full (up_to terminal.CloseParen (separated comma (port_decl_in limit))) ts

-- [ "(" [ ports ] ")" ]
unfoldable pub header_in : ℕ → ReaderOf PlainHeader
header_in limit ts = cases (after terminal.OpenParen ts) (Some (Plain [], ts)) (λ rest. ports_in limit rest)

-- items up to "endmodule"
unfoldable pub items_in : ℕ → ReaderOf (List PlainItem)
items_in limit ts = until terminal.Endmodule (item_in limit) (length ts) ts

abbrev pub module_of : Text × (List PlainParamDecl × (PlainHeader × List PlainItem)) → PlainModule
module_of x = record { name = x.0; params = x.1.0; header = x.1.1.0; items = x.1.1.1 }

-- a module of a height up to the limit
unfoldable pub module_reader : ℕ → ReaderOf PlainModule
module_reader limit = behind terminal.Module (mapped module_of (both name_in (both (header_params_in limit) (both (header_in limit) (behind terminal.Semicolon (items_in limit))))))
