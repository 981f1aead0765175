-- The rows of refusals over the names of a module: Twice, BadPort, NoName, BadConnect and NoParameter, each the list of its
-- faults in one module, in the order of the text.
use Rattle.std.specs.Prelude.{ℕ, nat_lt, Bool, true, false, not, ◌&&◌, ◌||◌, cond, List, [], ◌∷◌, ◌++◌, Option, Some, None, map, filter, take, length, is_none, is_some}
use Rattle.std.specs.List.{flat_map, list_any, enumerate_from}
use Rattle.rst_tree.specs.Trees.{Text, Tree}
use Rattle.rst_tree.specs.Modules.{PlainRange, PlainPortDecl, PlainNetDecl, PlainNetName, PlainParamDecl, PlainAssign, PlainEvents, PlainLink, PlainLinks, PlainCopied, PlainInstance, PlainHeader, PlainItem, PlainModule}
use Rattle.rst_tree.specs.Modules as tree
use Rattle.rst_names.specs.declared.faults.ElabCode.TheVariants as code
use Rattle.rst_names.specs.Faults.{Fault, fault_if, fault_at, first}
use Rattle.rst_names.specs.Names.{is_among, repeats, if_any, names_in, names_in_target, names_in_stmt}
use Rattle.rst_names.specs.SameTrees.{same_range}
use Rattle.rst_names.specs.declared.forms.Form.{Form}
use Rattle.rst_names.specs.declared.forms.Form.TheVariants.{Listed, Directed, Net}
use Rattle.rst_names.specs.Declarations.{Declaration, declarations, of_name, declares, is_signal, is_value, is_directed, is_input, ports, settable}

-- ---- Twice: "a used module declares a name twice: ports, nets, regs, parameters, instances"

-- "Under a plain header one direction and one wire or reg declaration of a port, with the same range, are one declaration." A
-- direction that says `reg` is a declaration of the reg already.
abbrev pub goes_with : Form → Form → Bool
goes_with (Directed input false) (Net reg) = true
goes_with (Net reg) (Directed input false) = true
goes_with _ _ = false

abbrev pub is_one : Declaration → Declaration → Bool
is_one a b = goes_with a.form b.form && same_range a.range b.range

abbrev pub is_listed : Form → Bool
is_listed Listed = true
is_listed _ = false

-- Whether a declaration may stand behind these of its name.
abbrev pub may_follow : List Declaration → Declaration → Bool
may_follow [] d = true
may_follow (a ∷ []) d = is_listed a.form && is_signal d.form
may_follow (a ∷ b ∷ []) d = is_one b d
may_follow _ d = false

abbrev pub twice_behind : List Declaration → List Declaration → List Fault
twice_behind earlier [] = []
twice_behind earlier (d ∷ ds) = fault_if (not (may_follow (of_name d.name earlier) d)) code.Twice d.name 0 ++ twice_behind (earlier ++ d ∷ []) ds

abbrev pub twice : PlainModule → List Fault
twice m = twice_behind [] (declarations m)

-- ---- BadPort: "a plain header's name without a direction, a direction for a name that isn't in it, a direction item under a full
-- header, an `input reg`"

abbrev pub bad_port : Text → Fault
bad_port name = fault_at code.BadPort name 0

-- an `input reg` is faulty wherever it stands
abbrev pub input_regs : PlainPortDecl → List Fault
input_regs d = cond (d.input && d.reg) (map bad_port d.names) []

abbrev pub bad_header : PlainModule → PlainHeader → List Fault
bad_header m (tree.Plain names) = map bad_port (filter (λ n. not (declares is_directed (declarations m) n)) names)
bad_header m (tree.Full ds) = flat_map input_regs ds

abbrev pub is_plain : PlainHeader → Bool
is_plain (tree.Plain names) = true
is_plain (tree.Full ds) = false

-- the names that an item declares against the header: a direction that the header doesn't ask for, or an `input reg` in one
-- declaration or in two
abbrev pub is_bad_direction : PlainModule → PlainPortDecl → Text → Bool
is_bad_direction m d n = not (is_plain m.header) || (not (is_among (ports m) n) || (d.input && d.reg))

abbrev pub bad_item : PlainModule → PlainItem → List Fault
bad_item m (tree.Port d) = map bad_port (filter (is_bad_direction m d) d.names)
bad_item m (tree.Net d) = cond d.reg (map bad_port (filter (declares is_input (declarations m)) (map (λ n. n.name) d.names))) []
bad_item m _ = []

abbrev pub bad_ports : PlainModule → List Fault
bad_ports m = bad_header m m.header ++ flat_map (bad_item m) m.items

-- ---- NoName: "an undeclared name, the number being the item, or 0 where it stands in the module's header"

-- A name that is used: in an expression or a target, or in an event list.
pub data Use : Type 0 where
  Used : Text → Use
  Awaited : Text → Use

abbrev pub used_in : Tree → List Use
used_in e = map Used (names_in e)

abbrev pub used_in_range : PlainRange → List Use
used_in_range r = used_in r.high ++ used_in r.low

abbrev pub used_in_port : PlainPortDecl → List Use
used_in_port d = if_any used_in_range d.range

abbrev pub used_in_net : PlainNetDecl → List Use
used_in_net d = if_any used_in_range d.range ++ flat_map (λ n. if_any used_in n.value) d.names

abbrev pub used_in_params : PlainParamDecl → List Use
used_in_params d = if_any used_in_range d.range ++ flat_map (λ n. used_in n.value) d.names

abbrev pub used_in_assign : PlainAssign → List Use
used_in_assign a = map Used (names_in_target a.target) ++ used_in a.value

abbrev pub used_in_events : PlainEvents → List Use
used_in_events tree.Any = []
used_in_events (tree.OneOf es) = map (λ e. Awaited e.name) es

abbrev pub used_in_links : PlainLinks → List Use
used_in_links (tree.Ordered es) = flat_map (if_any used_in) es
used_in_links (tree.Named ls) = flat_map (λ l. if_any used_in l.value) ls

abbrev pub used_in_instance : PlainInstance → List Use
used_in_instance i = used_in_links i.params ++ flat_map (λ c. used_in_links c.ports) i.copies

-- the names that an item uses, in the order of the text
abbrev pub used_in_item : PlainItem → List Use
used_in_item (tree.Port d) = used_in_port d
used_in_item (tree.Net d) = used_in_net d
used_in_item (tree.Params d) = used_in_params d
used_in_item (tree.Assigns as') = flat_map used_in_assign as'
used_in_item (tree.AlwaysBlock a) = used_in_events a.events ++ map Used (names_in_stmt a.body)
used_in_item (tree.Instances i) = used_in_instance i

abbrev pub used_in_header : PlainHeader → List Use
used_in_header (tree.Plain names) = []
used_in_header (tree.Full ds) = flat_map used_in_port ds

-- A signal or a parameter is declared for an expression or a target, a signal alone for an event. (So the name of an instance
-- counts as undeclared, and a parameter's in an event.)
abbrev pub undeclared : List Declaration → Use → List Text
undeclared ds (Used n) = cond (declares is_value ds n) [] (n ∷ [])
undeclared ds (Awaited n) = cond (declares is_signal ds n) [] (n ∷ [])

-- the undeclared names among those that are used
abbrev pub undeclared_in : List Declaration → List Use → List Text
undeclared_in ds uses = flat_map (undeclared ds) uses

abbrev pub no_name : ℕ → Text → Fault
no_name item name = fault_at code.NoName name item

abbrev pub used_in_heading : PlainModule → List Use
used_in_heading m = flat_map used_in_params m.params ++ used_in_header m.header

abbrev pub no_names_in : List Declaration → ℕ × PlainItem → List Fault
no_names_in ds numbered = map (no_name numbered.0) (undeclared_in ds (used_in_item numbered.1))

abbrev pub no_names : PlainModule → List Fault
no_names m =
    map (no_name 0) (undeclared_in (declarations m) (used_in_heading m))
    ++ flat_map (no_names_in (declarations m)) (enumerate_from 1 m.items)

-- ---- BadConnect: "an unknown or repeated port link or too many", at the instance
-- ---- NoParameter: "an unknown, local, repeated or empty parameter link or too many", at the instance

-- Links to these names are too many, or one names another or stands twice.
abbrev pub is_bad : List Text → PlainLinks → Bool
is_bad names (tree.Ordered es) = nat_lt (length names) (length es)
is_bad names (tree.Named ls) = list_any (λ l. not (is_among names l.name)) ls || is_some (first (repeats [] (map (λ l. l.name) ls)))

abbrev pub has_empty : PlainLinks → Bool
has_empty (tree.Ordered es) = list_any is_none es
has_empty (tree.Named ls) = list_any (λ l. is_none l.value) ls

-- the fault of one instance's port links
abbrev pub bad_copy : List Text → PlainCopied → List Fault
bad_copy names c = fault_if (is_bad names c.ports) code.BadConnect c.name 0

-- the faults of the instances of a module
abbrev pub bad_copies : PlainInstance → Option PlainModule → List Fault
bad_copies i None = []
bad_copies i (Some m) = flat_map (bad_copy (ports m)) i.copies

-- the fault of the parameter links of an item, which carries the name of its first instance
abbrev pub bad_setting : List Text → PlainLinks → PlainCopied → List Fault
bad_setting names links c = fault_if (is_bad names links || has_empty links) code.NoParameter c.name 0

abbrev pub bad_params : PlainInstance → Option PlainModule → List Fault
bad_params i None = []
bad_params i (Some m) = flat_map (bad_setting (settable m) i.params) (take 1 i.copies)
