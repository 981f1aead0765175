-- The units and clocked blocks that the items of an instance become in the flat design.
use Rattle.std.specs.Prelude.{ℕ, Bool, true, false, cond, List, [], ◌∷◌, Option, Some, None, map, is_some}
use Rattle.std.specs.List.{flat_map, enumerate_from}
use Rattle.rst_tree.specs.Trees.{Text, Tree}
use Rattle.rst_tree.specs.Trees as expr
use Rattle.rst_tree.specs.Targets as target
use Rattle.rst_tree.specs.Statements.{Statement}
use Rattle.rst_tree.specs.Modules.{PlainNetName, PlainAssign, PlainEvents, PlainAlways, PlainCopied, PlainItem, Any, OneOf}
use Rattle.rst_tree.specs.Modules as tree
use Rattle.rst_width.specs.Scopes.{Names, Meaning, Signal}
use Rattle.rst_width.specs.Answers.{own_shape}
use Rattle.rst_net.specs.declared.unit.Reset.{Reset}
use Rattle.rst_net.specs.Statements.{PlainSet}
use Rattle.rst_net.specs.Units.{PlainDriver, PlainProcess, Assign, Process}
use Rattle.rst_instances.specs.Parameters.{Linked, links_to}
use Rattle.rst_instances.specs.Places.{Joined, ToClock, ToInput, Located}
use Rattle.rst_typing.specs.Typing.{typed_at, slices_of, typed_set, typed_stmt}
use Rattle.rst_items.specs.ResetForms.{ResetForm, form_in, is_clocked, bare_stmt}
use Rattle.rst_items.specs.Seen.{Seen, Placed, placed, seen}

-- the number of a signal, 0 for what is none
abbrev pub number_or : Option Meaning → ℕ
number_or (Some (Signal i extent)) = i
number_or _ = 0

abbrev pub number_at : Names → Text → ℕ
number_at names name = number_or (names name)

abbrev pub set_by : Names → target.Place → Tree → PlainDriver
set_by names t e = Assign (typed_set names t e true)

-- ---- wires with a value, and assigns

abbrev pub wire_unit : Names → PlainNetName → List PlainDriver
wire_unit names n = elim n.value as (λ _. List PlainDriver) [ None ↦ [] | Some e ↦ set_by names (target.Whole n.name) e ∷ [] ]

abbrev pub assign_unit : Names → PlainAssign → PlainDriver
assign_unit names a = set_by names a.target a.value

-- ---- links: an input takes the value of its link, and the link of an output takes the output; a link of a clock name makes nothing

-- an input takes what the parent gives
abbrev pub input_set : Names → Seen → Linked → PlainSet
input_set names c l = record {
  target = record { signal = number_at c.names l.name; low = 0; width = c.width l.name } ∷ [];
  value = typed_at names l.value (c.width l.name);
  blocking = true;
}

-- an output gives its value to the parent's target
abbrev pub output_set : Names → Seen → Linked → PlainSet
output_set names c l = record {
  target = slices_of (typed_at names l.value 0);
  value = typed_at c.names (expr.Name l.name) (own_shape names l.value).width;
  blocking = true;
}

abbrev pub link_set : Names → Seen → Linked → PlainSet
link_set names c l = cond (c.total l.name).input (input_set names c l) (output_set names c l)

abbrev pub is_clock_name : Joined → Bool
is_clock_name ToClock = true
is_clock_name _ = false

abbrev pub link_units : Names → Seen → Linked → List PlainDriver
link_units names c l = cond (is_clock_name (c.leads l.name)) [] (Assign (link_set names c l) ∷ [])

-- what is looked at for each link of a copy of this instance
abbrev pub over_links : {X : Type 0} → (Seen → Linked → List X) → PlainCopied → Option Seen → List X
over_links f c None = []
over_links f c (Some k) = flat_map (f k) (links_to k.port_names c.ports)

-- and for each link of an item
abbrev pub over_copies : {X : Type 0} → (Seen → Linked → List X) → Placed → List PlainCopied → List X
over_copies f placed cs = flat_map (λ c. over_links f c (placed c)) cs

-- ---- blocks

-- the names of an event list; none for `@*`
abbrev pub listened : Names → PlainEvents → Option (List ℕ)
listened names Any = None
listened names (OneOf es) = Some (map (λ e. number_at names e.name) es)

abbrev pub block_in : Names → Text → ℕ → PlainAlways → PlainProcess
block_in names path item a = record {
  body = typed_stmt names a.body;
  listens = listened names a.events;
  path = path;
  item = item;
  reset = None;
}

-- the top's input that a reset leads to, and its level
abbrev pub reset_to : Bool → Joined → Option Reset
reset_to level (ToInput i) = Some (record { signal = i; level = level })
reset_to level _ = None

-- (`leads` says where a name leads to.)
abbrev pub reset_of : (Text → Joined) → Option ResetForm → Option Reset
reset_of leads None = None
reset_of leads (Some f) = reset_to f.level (leads f.reset)

abbrev pub clocked_body : Option ResetForm → Statement → Statement
clocked_body form body = cond (is_some form) (bare_stmt body) body

-- A block in reset form is its `if` with both branches, without the `begin` and `end` around it.
abbrev pub clocked_in : Names → (Text → Joined) → Text → ℕ → Option ResetForm → Statement → PlainProcess
clocked_in names leads path item form body = record {
  body = typed_stmt names (clocked_body form body);
  listens = None;
  path = path;
  item = item;
  reset = reset_of leads form;
}

-- the signals among names
abbrev pub is_signal_at : Seen → Text → Bool
is_signal_at s name = (s.total name).signal

abbrev pub clocked_block : Seen → ℕ → PlainAlways → PlainProcess
clocked_block s item a = clocked_in s.names s.leads s.path item (form_in (is_signal_at s) a.events a.body) a.body

-- ---- the items of an instance, in the order of its text; its units come before those of the instances below it

abbrev pub item_units : Placed → Seen → ℕ × PlainItem → List PlainDriver
item_units placed s (n, tree.Net d) = flat_map (wire_unit s.names) d.names
item_units placed s (n, tree.Assigns as') = map (assign_unit s.names) as'
item_units placed s (n, tree.AlwaysBlock a) = cond (is_clocked a.events) [] (Process (block_in s.names s.path n a) ∷ [])
item_units placed s (n, tree.Instances i) = over_copies (link_units s.names) placed i.copies
item_units placed s (n, x) = []

abbrev pub unit_row : Placed → Seen → List PlainItem → List PlainDriver
unit_row placed s items = flat_map (item_units placed s) (enumerate_from 1 items)

abbrev pub item_clocked : Seen → ℕ × PlainItem → List PlainProcess
item_clocked s (n, tree.AlwaysBlock a) = cond (is_clocked a.events) (clocked_block s n a ∷ []) []
item_clocked s (n, x) = []

abbrev pub clocked_row : Placed → Seen → List PlainItem → List PlainProcess
clocked_row placed s items = flat_map (item_clocked s) (enumerate_from 1 items)

-- What a row makes of the items of an instance.
abbrev pub of_instance : {X : Type 0} → (Placed → Seen → List PlainItem → List X) → List Located → Located → List X
of_instance row ls l = row (placed ls l) (seen l) l.place.of.items

-- Units and clocked blocks stand in flat order: instances in pre-order, inside by text.
abbrev pub units : List Located → List PlainDriver
units ls = flat_map (of_instance unit_row ls) ls

abbrev pub clocked : List Located → List PlainProcess
clocked ls = flat_map (of_instance clocked_row ls) ls
