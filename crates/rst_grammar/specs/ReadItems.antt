-- Reading links, instances and the other items from left to right.
use Rattle.std.specs.Prelude.{ℕ, List, [], ◌∷◌, true, false, Option, Some, None}
use Rattle.rst_tree.specs.Trees.{Text, Tree}
use Rattle.rst_tree.specs.Targets.{Place}
use Rattle.rst_tree.specs.Statements.{Statement}
use Rattle.rst_tree.specs.declared.module.Event.{Event}
use Rattle.rst_tree.specs.declared.module.EdgeKind.{EdgeKind}
use Rattle.rst_tree.specs.declared.module.EdgeKind.TheVariants as edge
use Rattle.rst_tree.specs.Modules.{PlainLink, PlainLinks, Ordered, Named, PlainCopied, PlainInstance, PlainAssign, PlainEvents, Any, OneOf, PlainAlways, PlainItem, Port, Net, Params, Assigns, AlwaysBlock, Instances}
use Rattle.rst_grammar.specs.declared.symbol.Terminal.{Terminal}
use Rattle.rst_grammar.specs.declared.symbol.Terminal.TheVariants as terminal
use Rattle.rst_grammar.specs.declared.symbol.Symbol.{Symbol}
use Rattle.rst_grammar.specs.declared.symbol.Symbol.TheVariants as symbol
use Rattle.rst_grammar.specs.Reading.{◌>>=◌, cases, after}
use Rattle.rst_grammar.specs.ReadStatement.{target_reader, stmt_reader}
use Rattle.rst_grammar.specs.ReadParts.{ReaderOf, name_in, mapped, both, behind, up_to, separated, comma}
use Rattle.rst_grammar.specs.ReadDeclarations.{expr_in, port_decl_in, param_decl_in, net_decl_in}

-- ---- links and instances

-- an expression, or nothing before a comma or the closing parenthesis
unfoldable pub link_value_in : ℕ → ReaderOf (Option Tree)
link_value_in limit (symbol.Terminal terminal.Comma ∷ rest) = Some (None, symbol.Terminal terminal.Comma ∷ rest)
link_value_in limit (symbol.Terminal terminal.CloseParen ∷ rest) = Some (None, symbol.Terminal terminal.CloseParen ∷ rest)
link_value_in limit ts = expr_in limit ts >>= λ e. Some (Some e.0, e.1)

abbrev pub link_of : Text × Option Tree → PlainLink
link_of x = record { name = x.0; value = x.1 }

-- "." ID "(" [ expr ] ")"
unfoldable pub link_in : ℕ → ReaderOf PlainLink
link_in limit = mapped link_of (behind terminal.Dot (both name_in (behind terminal.OpenParen (up_to terminal.CloseParen (link_value_in limit)))))

-- links before the closing parenthesis
unfoldable pub links_in : ℕ → ReaderOf PlainLinks
links_in limit (symbol.Terminal terminal.CloseParen ∷ rest) = Some (Ordered [], symbol.Terminal terminal.CloseParen ∷ rest)
links_in limit (symbol.Terminal terminal.Dot ∷ rest) = mapped Named (separated comma (link_in limit)) (symbol.Terminal terminal.Dot ∷ rest)
links_in limit ts = mapped Ordered (separated comma (link_value_in limit)) ts

-- "(" [ links ] ")"
unfoldable pub parens_in : ℕ → ReaderOf PlainLinks
parens_in limit = behind terminal.OpenParen (up_to terminal.CloseParen (links_in limit))

-- [ "#" "(" links ")" ]
unfoldable pub param_links_in : ℕ → ReaderOf PlainLinks
param_links_in limit ts = cases (after terminal.Hash ts) (Some (Ordered [], ts)) (λ rest. parens_in limit rest)

abbrev pub copied_of : Text × PlainLinks → PlainCopied
copied_of x = record { name = x.0; ports = x.1 }

unfoldable pub copied_in : ℕ → ReaderOf PlainCopied
copied_in limit = mapped copied_of (both name_in (parens_in limit))

unfoldable pub copies_in : ℕ → ReaderOf (List PlainCopied)
copies_in limit = separated comma (copied_in limit)

abbrev pub instance_of : Text × (PlainLinks × List PlainCopied) → PlainInstance
instance_of x = record { of_module = x.0; params = x.1.0; copies = x.1.1 }

-- up to ";"
unfoldable pub instance_in : ℕ → ReaderOf PlainInstance
instance_in limit = mapped instance_of (both name_in (both (param_links_in limit) (up_to terminal.Semicolon (copies_in limit))))

-- ---- assigns

abbrev pub assign_of : Place × Tree → PlainAssign
assign_of x = record { target = x.0; value = x.1 }

-- target "=" expr
unfoldable pub assign_in : ℕ → ReaderOf PlainAssign
assign_in limit = mapped assign_of (both (target_reader limit) (behind terminal.Equal (expr_in limit)))

-- "assign" and all up to ";"
unfoldable pub assigns_in : ℕ → ReaderOf (List PlainAssign)
assigns_in limit = behind terminal.Assign (up_to terminal.Semicolon (separated comma (assign_in limit)))

-- ---- always blocks

-- "posedge", "negedge", or neither
unfoldable pub edge_in : ReaderOf EdgeKind
edge_in (symbol.Terminal terminal.Posedge ∷ rest) = Some (edge.Rising, rest)
edge_in (symbol.Terminal terminal.Negedge ∷ rest) = Some (edge.Falling, rest)
edge_in ts = Some (edge.Level, ts)

abbrev pub event_of : EdgeKind × Text → Event
event_of x = record { edge = x.0; name = x.1 }

unfoldable pub event_in : ReaderOf Event
event_in = mapped event_of (both edge_in name_in)

-- the symbols behind "or" or a comma
unfoldable pub or_comma : List Symbol → Option (List Symbol)
or_comma (symbol.Terminal terminal.Or ∷ rest) = Some rest
or_comma (symbol.Terminal terminal.Comma ∷ rest) = Some rest
or_comma _ = None

-- what stands in the parentheses, up to the closing one
unfoldable pub event_list_in : ReaderOf PlainEvents
event_list_in (symbol.Terminal terminal.Star ∷ rest) = after terminal.CloseParen rest >>= λ outside. Some (Any, outside)
event_list_in ts = mapped OneOf (up_to terminal.CloseParen (separated or_comma event_in)) ts

-- behind "@"
unfoldable pub events_in : ReaderOf PlainEvents
events_in (symbol.Terminal terminal.Star ∷ rest) = Some (Any, rest)
events_in (symbol.Terminal terminal.OpenParen ∷ rest) = event_list_in rest
events_in _ = None

abbrev pub always_of : PlainEvents × Statement → PlainAlways
always_of x = record { events = x.0; body = x.1 }

-- "always" events stmt
unfoldable pub always_in : ℕ → ReaderOf PlainAlways
always_in limit = behind terminal.Always (mapped always_of (both (behind terminal.At events_in) (stmt_reader limit)))

-- ---- items

-- the item that begins with this terminal, which stands in front of the symbols
unfoldable pub word_item : Terminal → ℕ → ReaderOf PlainItem
word_item terminal.Input limit ts = mapped Port (up_to terminal.Semicolon (port_decl_in limit)) ts
word_item terminal.Output limit ts = mapped Port (up_to terminal.Semicolon (port_decl_in limit)) ts
word_item terminal.Wire limit ts = mapped Net (net_decl_in false limit) ts
word_item terminal.Reg limit ts = mapped Net (net_decl_in true limit) ts
word_item terminal.Parameter limit ts = mapped Params (up_to terminal.Semicolon (param_decl_in false limit)) ts
word_item terminal.Localparam limit ts = mapped Params (up_to terminal.Semicolon (param_decl_in true limit)) ts
word_item terminal.Assign limit ts = mapped Assigns (assigns_in limit) ts
word_item terminal.Always limit ts = mapped AlwaysBlock (always_in limit) ts
word_item _ limit ts = None

unfoldable pub item_in : ℕ → ReaderOf PlainItem
item_in limit [] = None
item_in limit (symbol.Name n ∷ rest) = mapped Instances (instance_in limit) (symbol.Name n ∷ rest)
item_in limit (symbol.Number n ∷ rest) = None
item_in limit (symbol.Terminal t ∷ rest) = word_item t limit (symbol.Terminal t ∷ rest)
