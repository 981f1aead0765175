-- What a module declares (IEEE 1364-2001, clauses 3.2, 3.11, 12.1.2 and 12.3).
use Rattle.std.specs.Prelude.{Bool, true, false, not, ◌||◌, cond, List, [], ◌∷◌, ◌++◌, Option, None, map, filter}
use Rattle.std.specs.List.{flat_map, list_any}
use Rattle.rst_tree.specs.Trees.{Text}
use Rattle.rst_tree.specs.Modules.{PlainRange, PlainPortDecl, PlainNetDecl, PlainNetName, PlainParamDecl, PlainParamName, PlainCopied, PlainHeader, PlainItem, PlainModule}
use Rattle.rst_tree.specs.Modules as tree
use Rattle.rst_names.specs.declared.forms.Form.{Form}
use Rattle.rst_names.specs.declared.forms.Form.TheVariants.{Listed, Directed, Net, Parameter, Instance}
use Rattle.rst_names.specs.Names.{same_text, is_among}

pub record Declaration : Type 0 where
  pub name : Text
  pub form : Form
  pub signed : Bool
  pub range : Option PlainRange

abbrev pub listed : Text → Declaration
listed name = record { name = name; form = Listed; signed = false; range = None }

abbrev pub port_declaration : PlainPortDecl → Text → Declaration
port_declaration d name = record { name = name; form = Directed d.input d.reg; signed = d.signed; range = d.range }

abbrev pub port_declarations : PlainPortDecl → List Declaration
port_declarations d = map (port_declaration d) d.names

abbrev pub net_declaration : PlainNetDecl → PlainNetName → Declaration
net_declaration d n = record { name = n.name; form = Net d.reg; signed = d.signed; range = d.range }

abbrev pub net_declarations : PlainNetDecl → List Declaration
net_declarations d = map (net_declaration d) d.names

abbrev pub param_declaration : PlainParamDecl → PlainParamName → Declaration
param_declaration d n = record { name = n.name; form = Parameter; signed = d.signed; range = d.range }

abbrev pub param_declarations : PlainParamDecl → List Declaration
param_declarations d = map (param_declaration d) d.names

abbrev pub copy_declaration : PlainCopied → Declaration
copy_declaration c = record { name = c.name; form = Instance; signed = false; range = None }

abbrev pub copy_declarations : List PlainCopied → List Declaration
copy_declarations copies = map copy_declaration copies

abbrev pub header_declarations : PlainHeader → List Declaration
header_declarations (tree.Plain names) = map listed names
header_declarations (tree.Full ports) = flat_map port_declarations ports

abbrev pub item_declarations : PlainItem → List Declaration
item_declarations (tree.Port d) = port_declarations d
item_declarations (tree.Net d) = net_declarations d
item_declarations (tree.Params d) = param_declarations d
item_declarations (tree.Assigns as') = []
item_declarations (tree.AlwaysBlock a) = []
item_declarations (tree.Instances i) = copy_declarations i.copies

-- The declarations of a module, in the order of its text.
abbrev pub declarations : PlainModule → List Declaration
declarations m = flat_map param_declarations m.params ++ (header_declarations m.header ++ flat_map item_declarations m.items)

-- those of this name
abbrev pub of_name : Text → List Declaration → List Declaration
of_name name ds = filter (λ d. same_text d.name name) ds

abbrev pub is_signal : Form → Bool
is_signal (Directed input reg) = true
is_signal (Net reg) = true
is_signal _ = false

abbrev pub is_parameter : Form → Bool
is_parameter Parameter = true
is_parameter _ = false

-- a name that an expression may use
abbrev pub is_value : Form → Bool
is_value form = is_signal form || is_parameter form

abbrev pub is_directed : Form → Bool
is_directed (Directed input reg) = true
is_directed _ = false

abbrev pub is_input : Form → Bool
is_input (Directed input reg) = input
is_input _ = false

abbrev pub is_output : Form → Bool
is_output (Directed input reg) = not input
is_output _ = false

abbrev pub is_reg : Form → Bool
is_reg (Directed input reg) = reg
is_reg (Net reg) = reg
is_reg _ = false

-- whether one of the declarations of this name is of such a form
abbrev pub declares : (Form → Bool) → List Declaration → Text → Bool
declares test ds name = list_any (λ d. test d.form) (of_name name ds)

-- The ports of a module, in the order of its header.
abbrev pub ports_of_header : PlainHeader → List Text
ports_of_header (tree.Plain names) = names
ports_of_header (tree.Full ports) = flat_map (λ d. d.names) ports

abbrev pub ports : PlainModule → List Text
ports m = ports_of_header m.header

-- A signal of a module, by all declarations of its name together: it is signed where one of them is, and has the range of the
-- first.
pub record Declared : Type 0 where
  pub name : Text
  pub input : Bool
  pub output : Bool
  pub reg : Bool
  pub signed : Bool
  pub range : Option PlainRange

abbrev pub first_range : List Declaration → Option PlainRange
first_range [] = None
first_range (d ∷ ds) = d.range

abbrev pub signal_declarations : List Declaration → List Declaration
signal_declarations ds = filter (λ d. is_signal d.form) ds

abbrev pub signal_names : List Declaration → List Text
signal_names ds = map (λ d. d.name) (signal_declarations ds)

-- the signal that these declarations declare under a name
abbrev pub declared_in : List Declaration → Text → Declared
declared_in ds name = record {
  name = name;
  input = declares is_input ds name;
  output = declares is_output ds name;
  reg = declares is_reg ds name;
  signed = list_any (λ d. d.signed) (of_name name (signal_declarations ds));
  range = first_range (of_name name (signal_declarations ds));
}

abbrev pub signal_named : PlainModule → Text → Declared
signal_named m name = declared_in (declarations m) name

-- The signals that are no ports, in the order of the text.
abbrev pub inner_names : PlainModule → List Text
inner_names m = filter (λ n. not (is_among (ports m) n)) (signal_names (declarations m))

-- The signals of a module in flat order: its ports in the order of the header, then the others.
abbrev pub signals : PlainModule → List Declared
signals m = map (signal_named m) (ports m ++ inner_names m)

-- The parameters that an instance can set, in order: those of the header, then those of the items, without local ones.
abbrev pub settable_of : PlainParamDecl → List Text
settable_of d = cond d.local [] (map (λ n. n.name) d.names)

abbrev pub item_params : PlainItem → List PlainParamDecl
item_params (tree.Params d) = d ∷ []
item_params _ = []

-- all declarations of parameters, in the order of the text
abbrev pub param_decls : PlainModule → List PlainParamDecl
param_decls m = m.params ++ flat_map item_params m.items

abbrev pub settable : PlainModule → List Text
settable m = flat_map settable_of (param_decls m)
