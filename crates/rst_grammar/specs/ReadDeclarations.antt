-- Reading declarations from left to right.
use Rattle.std.specs.Prelude.{ℕ, List, ◌∷◌, Bool, true, false, Option, Some, None}
use Rattle.rst_tree.specs.Trees.{Text, Tree}
use Rattle.rst_tree.specs.Modules.{PlainRange, PlainPortDecl, PlainParamName, PlainParamDecl, PlainNetName, PlainNetDecl}
use Rattle.rst_grammar.specs.declared.symbol.Terminal.TheVariants as terminal
use Rattle.rst_grammar.specs.declared.symbol.Symbol.TheVariants as symbol
use Rattle.rst_grammar.specs.Reading.{readers}
use Rattle.rst_grammar.specs.ReadParts.{ReaderOf, name_in, mapped, both, behind, up_to, optional, flag, separated, comma, comma_before_name}
use Rattle.rst_grammar.specs.Declarations.{parameter_word, net_word}

-- an expression of a height up to the limit
abbrev pub expr_in : ℕ → ReaderOf Tree
expr_in limit = (readers limit).full

abbrev pub range_of : Tree × Tree → PlainRange
range_of x = record { high = x.0; low = x.1 }

-- behind "["
unfoldable pub range_in : ℕ → ReaderOf PlainRange
range_in limit = mapped range_of (both (expr_in limit) (behind terminal.Colon (up_to terminal.CloseBracket (expr_in limit))))

-- "input" or "output"
unfoldable pub direction_in : ReaderOf Bool
direction_in (symbol.Terminal terminal.Input ∷ rest) = Some (true, rest)
direction_in (symbol.Terminal terminal.Output ∷ rest) = Some (false, rest)
direction_in _ = None

-- "wire", "reg", or neither
unfoldable pub kind_in : ReaderOf Bool
kind_in (symbol.Terminal terminal.Reg ∷ rest) = Some (true, rest)
kind_in (symbol.Terminal terminal.Wire ∷ rest) = Some (false, rest)
kind_in ts = Some (false, ts)

-- names up to the first comma without one behind it
unfoldable pub names_in : ReaderOf (List Text)
names_in = separated comma_before_name name_in

abbrev pub port_decl_of : Bool × (Bool × (Bool × (Option PlainRange × List Text))) → PlainPortDecl
port_decl_of x = record { input = x.0; reg = x.1.0; signed = x.1.1.0; range = x.1.1.1.0; names = x.1.1.1.1 }

unfoldable pub port_decl_in : ℕ → ReaderOf PlainPortDecl
port_decl_in limit = mapped port_decl_of (both direction_in (both kind_in (both (flag terminal.Signed) (both (optional terminal.OpenBracket (range_in limit)) names_in))))

abbrev pub param_name_of : Text × Tree → PlainParamName
param_name_of x = record { name = x.0; value = x.1 }

-- a name, "=" and its value
unfoldable pub param_name_in : ℕ → ReaderOf PlainParamName
param_name_in limit = mapped param_name_of (both name_in (behind terminal.Equal (expr_in limit)))

unfoldable pub param_names_in : ℕ → ReaderOf (List PlainParamName)
param_names_in limit = separated comma_before_name (param_name_in limit)

abbrev pub param_decl_of : Bool → Bool × (Option PlainRange × List PlainParamName) → PlainParamDecl
param_decl_of local x = record { local = local; signed = x.0; range = x.1.0; names = x.1.1 }

-- "parameter" or, of local ones, "localparam", and the parameters behind it
unfoldable pub param_decl_in : Bool → ℕ → ReaderOf PlainParamDecl
param_decl_in local limit = mapped (param_decl_of local) (behind (parameter_word local) (both (flag terminal.Signed) (both (optional terminal.OpenBracket (range_in limit)) (param_names_in limit))))

-- "=" and a value behind a wire, nothing behind a reg
unfoldable pub net_value_in : Bool → ℕ → ReaderOf (Option Tree)
net_value_in true limit ts = Some (None, ts)
net_value_in false limit ts = optional terminal.Equal (expr_in limit) ts

abbrev pub net_name_of : Text × Option Tree → PlainNetName
net_name_of x = record { name = x.0; value = x.1 }

unfoldable pub net_name_in : Bool → ℕ → ReaderOf PlainNetName
net_name_in reg limit = mapped net_name_of (both name_in (net_value_in reg limit))

unfoldable pub net_names_in : Bool → ℕ → ReaderOf (List PlainNetName)
net_names_in reg limit = separated comma (net_name_in reg limit)

abbrev pub net_decl_of : Bool → Bool × (Option PlainRange × List PlainNetName) → PlainNetDecl
net_decl_of reg x = record { reg = reg; signed = x.0; range = x.1.0; names = x.1.1 }

-- "wire" or "reg", and all up to ";"
unfoldable pub net_decl_in : Bool → ℕ → ReaderOf PlainNetDecl
net_decl_in reg limit = mapped (net_decl_of reg) (behind (net_word reg) (both (flag terminal.Signed) (both (optional terminal.OpenBracket (range_in limit)) (up_to terminal.Semicolon (net_names_in reg limit)))))
