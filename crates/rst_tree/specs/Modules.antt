-- Modules and their items in plain form: the same fields, with lists in place of what lies in memory.
use Rattle.std.specs.Prelude.{ℕ, max, List, [], ◌∷◌, Bool, Option, Some, None, map}
use Rattle.std.specs.Option.{option_map}
use Rattle.rst_tree.specs.declared.module.Source.{Source}
use Rattle.rst_tree.specs.declared.module.Module.{Module}
use Rattle.rst_tree.specs.declared.module.Header.{Header}
use Rattle.rst_tree.specs.declared.module.Header.TheVariants as header
use Rattle.rst_tree.specs.declared.module.PortDecl.{PortDecl}
use Rattle.rst_tree.specs.declared.module.Range.{Range}
use Rattle.rst_tree.specs.declared.module.ParamDecl.{ParamDecl}
use Rattle.rst_tree.specs.declared.module.ParamName.{ParamName}
use Rattle.rst_tree.specs.declared.module.NetDecl.{NetDecl}
use Rattle.rst_tree.specs.declared.module.NetName.{NetName}
use Rattle.rst_tree.specs.declared.module.Item.{Item}
use Rattle.rst_tree.specs.declared.module.Item.TheVariants as item
use Rattle.rst_tree.specs.declared.module.Assign.{Assign}
use Rattle.rst_tree.specs.declared.module.Always.{Always}
use Rattle.rst_tree.specs.declared.module.Events.{Events}
use Rattle.rst_tree.specs.declared.module.Events.TheVariants as events
use Rattle.rst_tree.specs.declared.module.Event.{Event}
use Rattle.rst_tree.specs.declared.module.Instance.{Instance}
use Rattle.rst_tree.specs.declared.module.Copied.{Copied}
use Rattle.rst_tree.specs.declared.module.Links.{Links}
use Rattle.rst_tree.specs.declared.module.Links.TheVariants as links
use Rattle.rst_tree.specs.declared.module.Link.{Link}
use Rattle.rst_tree.specs.Trees.{Text, Tree, plain, height}
use Rattle.rst_tree.specs.Targets.{Place, plain_target, height_of_target}
use Rattle.rst_tree.specs.Statements.{Statement, plain_stmt, height_of}

pub record PlainRange : Type 0 where
  pub high : Tree
  pub low : Tree

pub record PlainPortDecl : Type 0 where
  pub input : Bool
  pub reg : Bool
  pub signed : Bool
  pub range : Option PlainRange
  pub names : List Text

pub record PlainParamName : Type 0 where
  pub name : Text
  pub value : Tree

pub record PlainParamDecl : Type 0 where
  pub local : Bool
  pub signed : Bool
  pub range : Option PlainRange
  pub names : List PlainParamName

pub record PlainNetName : Type 0 where
  pub name : Text
  pub value : Option Tree

pub record PlainNetDecl : Type 0 where
  pub reg : Bool
  pub signed : Bool
  pub range : Option PlainRange
  pub names : List PlainNetName

pub record PlainAssign : Type 0 where
  pub target : Place
  pub value : Tree

-- an event has nothing in memory but its name, so it is its own plain form
pub data PlainEvents : Type 0 where
  Any : PlainEvents
  OneOf : List Event → PlainEvents

pub record PlainAlways : Type 0 where
  pub events : PlainEvents
  pub body : Statement

pub record PlainLink : Type 0 where
  pub name : Text
  pub value : Option Tree

pub data PlainLinks : Type 0 where
  Ordered : List (Option Tree) → PlainLinks
  Named : List PlainLink → PlainLinks

pub record PlainCopied : Type 0 where
  pub name : Text
  pub ports : PlainLinks

pub record PlainInstance : Type 0 where
  pub of_module : Text
  pub params : PlainLinks
  pub copies : List PlainCopied

pub data PlainItem : Type 0 where
  Port : PlainPortDecl → PlainItem
  Net : PlainNetDecl → PlainItem
  Params : PlainParamDecl → PlainItem
  Assigns : List PlainAssign → PlainItem
  AlwaysBlock : PlainAlways → PlainItem
  Instances : PlainInstance → PlainItem

pub data PlainHeader : Type 0 where
  Plain : List Text → PlainHeader
  Full : List PlainPortDecl → PlainHeader

pub record PlainModule : Type 0 where
  pub name : Text
  pub params : List PlainParamDecl
  pub header : PlainHeader
  pub items : List PlainItem

abbrev pub plain_range : Range → PlainRange
plain_range r = record { high = plain r.high; low = plain r.low }

abbrev pub plain_port_decl : PortDecl → PlainPortDecl
plain_port_decl d = record { input = d.input; reg = d.reg; signed = d.signed; range = option_map plain_range d.range; names = d.names.items }

abbrev pub plain_param_name : ParamName → PlainParamName
plain_param_name n = record { name = n.name; value = plain n.value }

abbrev pub plain_param_decl : ParamDecl → PlainParamDecl
plain_param_decl d = record { local = d.local; signed = d.signed; range = option_map plain_range d.range; names = map plain_param_name d.names.items }

abbrev pub plain_net_name : NetName → PlainNetName
plain_net_name n = record { name = n.name; value = option_map plain n.value }

abbrev pub plain_net_decl : NetDecl → PlainNetDecl
plain_net_decl d = record { reg = d.reg; signed = d.signed; range = option_map plain_range d.range; names = map plain_net_name d.names.items }

abbrev pub plain_assign : Assign → PlainAssign
plain_assign a = record { target = plain_target a.target; value = plain a.value }

abbrev pub plain_events : Events → PlainEvents
plain_events events.Any = Any
plain_events (events.List es) = OneOf es.items

abbrev pub plain_always : Always → PlainAlways
plain_always a = record { events = plain_events a.events; body = plain_stmt a.body }

abbrev pub plain_link : Link → PlainLink
plain_link l = record { name = l.name; value = option_map plain l.value }

abbrev pub plain_links : Links → PlainLinks
plain_links (links.Ordered es) = Ordered (map (option_map plain) es.items)
plain_links (links.Named ls) = Named (map plain_link ls.items)

abbrev pub plain_copied : Copied → PlainCopied
plain_copied c = record { name = c.name; ports = plain_links c.ports }

abbrev pub plain_instance : Instance → PlainInstance
plain_instance i = record { of_module = i.«module»; params = plain_links i.params; copies = map plain_copied i.copies.items }

abbrev pub plain_item : Item → PlainItem
plain_item (item.Port d) = Port (plain_port_decl d)
plain_item (item.Net d) = Net (plain_net_decl d)
plain_item (item.Params d) = Params (plain_param_decl d)
plain_item (item.Assign as') = Assigns (map plain_assign as'.items)
plain_item (item.Always a) = AlwaysBlock (plain_always a)
plain_item (item.Instance i) = Instances (plain_instance i)

abbrev pub plain_header : Header → PlainHeader
plain_header (header.Plain names) = Plain names.items
plain_header (header.Full ports) = Full (map plain_port_decl ports.items)

abbrev pub plain_module : Module → PlainModule
plain_module m = record { name = m.name; params = map plain_param_decl m.params.items; header = plain_header m.header; items = map plain_item m.items.items }

abbrev pub plain_source : Source → List PlainModule
plain_source s = map plain_module s.modules.items

-- the greatest height over a list, 0 for an empty one
abbrev pub tallest : {A : Type 0} → (A → ℕ) → List A → ℕ
tallest size [] = 0
tallest size (x ∷ xs) = max (size x) (tallest size xs)

-- what an optional part adds
abbrev pub height_if : {A : Type 0} → (A → ℕ) → Option A → ℕ
height_if size None = 0
height_if size (Some x) = size x

-- The height of a declaration or an item is the greatest among the nodes in it, 0 where there is none.
-- The height of a module is the greatest over its parameters, the ports of its header and its items.
abbrev pub height_of_range : PlainRange → ℕ
height_of_range r = max (height r.high) (height r.low)

abbrev pub height_of_port_decl : PlainPortDecl → ℕ
height_of_port_decl d = height_if height_of_range d.range

abbrev pub height_of_param_name : PlainParamName → ℕ
height_of_param_name n = height n.value

abbrev pub height_of_param_decl : PlainParamDecl → ℕ
height_of_param_decl d = max (height_if height_of_range d.range) (tallest height_of_param_name d.names)

abbrev pub height_of_net_name : PlainNetName → ℕ
height_of_net_name n = height_if height n.value

abbrev pub height_of_net_decl : PlainNetDecl → ℕ
height_of_net_decl d = max (height_if height_of_range d.range) (tallest height_of_net_name d.names)

abbrev pub height_of_assign : PlainAssign → ℕ
height_of_assign a = max (height_of_target a.target) (height a.value)

abbrev pub height_of_link : PlainLink → ℕ
height_of_link l = height_if height l.value

abbrev pub height_of_links : PlainLinks → ℕ
height_of_links (Ordered es) = tallest (height_if height) es
height_of_links (Named ls) = tallest height_of_link ls

abbrev pub height_of_copied : PlainCopied → ℕ
height_of_copied c = height_of_links c.ports

abbrev pub height_of_item : PlainItem → ℕ
height_of_item (Port d) = height_of_port_decl d
height_of_item (Net d) = height_of_net_decl d
height_of_item (Params d) = height_of_param_decl d
height_of_item (Assigns as') = tallest height_of_assign as'
height_of_item (AlwaysBlock a) = height_of a.body
height_of_item (Instances i) = max (height_of_links i.params) (tallest height_of_copied i.copies)

abbrev pub height_of_header : PlainHeader → ℕ
height_of_header (Plain names) = 0
height_of_header (Full ports) = tallest height_of_port_decl ports

abbrev pub height_of_module : PlainModule → ℕ
height_of_module m = max (tallest height_of_param_decl m.params) (max (height_of_header m.header) (tallest height_of_item m.items))
