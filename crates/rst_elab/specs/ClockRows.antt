-- The rows of refusals over clocks and resets, each the list of its faults in the order of the text.
use Rattle.std.specs.Prelude.{nat_eq, Bool, true, false, not, ◌&&◌, cond, List, [], ◌∷◌, ◌++◌, Option, Some, None, map, filter}
use Rattle.std.specs.List.{flat_map}
use Rattle.rst_tree.specs.Trees.{Text}
use Rattle.rst_tree.specs.declared.module.Event.{Event}
use Rattle.rst_tree.specs.Modules.{PlainNetName, PlainAssign, PlainEvents, PlainAlways, PlainItem, Any, OneOf}
use Rattle.rst_tree.specs.Modules as tree
use Rattle.rst_names.specs.declared.faults.ElabCode.{ElabCode}
use Rattle.rst_names.specs.declared.faults.ElabCode.TheVariants as code
use Rattle.rst_names.specs.Faults.{Fault, fault_at, fault_if}
use Rattle.rst_names.specs.Names.{if_any, names_in, names_in_target, names_in_stmt}
use Rattle.rst_instances.specs.Parameters.{Linked}
use Rattle.rst_instances.specs.Places.{Joined, ToInput, whole_name}
use Rattle.rst_items.specs.Seen.{Seen, Placed}
use Rattle.rst_items.specs.Items.{is_clock_name, is_signal_at, over_copies}
use Rattle.rst_items.specs.ResetForms.{ResetForm, form_in, is_level}

-- ---- ClockMissing: the clock has to be an input of the top with one bit

abbrev pub is_clock_input : Seen → Text → Bool
is_clock_input top clock = (top.total clock).input && nat_eq (top.width clock) 1

abbrev pub clock_missing : Seen → Option Text → List Fault
clock_missing top None = []
clock_missing top (Some clock) = fault_if (not (is_clock_input top clock)) code.ClockMissing clock 0

-- ---- ClockMisused: edges wait for clock names alone, but for the reset of a reset form, and a clock name stands in edges and in
-- whole links to inputs alone. The fault is at the signal.

-- Of a name of an instance, whether it is a clock name. (Below, `clocks` is this test.)
abbrev pub is_clock_of : Seen → Text → Bool
is_clock_of s name = is_clock_name (s.leads name)

-- an event that isn't the reset of a reset form: an edge waits for a clock name, and any other event doesn't
abbrev pub misused_event : (Text → Bool) → Event → List Text
misused_event clocks e = cond (clocks e.name) (cond (is_level e.edge) (e.name ∷ []) []) (cond (is_level e.edge) [] (e.name ∷ []))

abbrev pub misused_in_list : (Text → Bool) → List Event → Option ResetForm → List Text
misused_in_list clocks es None = flat_map (misused_event clocks) es
misused_in_list clocks es (Some f) = cond (clocks f.clock) [] (f.clock ∷ [])

abbrev pub misused_in_events : (Text → Bool) → PlainEvents → Option ResetForm → List Text
misused_in_events clocks Any f = []
misused_in_events clocks (OneOf es) f = misused_in_list clocks es f

-- (`test` says of a name whether it is one of a signal.)
abbrev pub misused_in_block : (Text → Bool) → (Text → Bool) → PlainAlways → List Text
misused_in_block clocks test a =
    misused_in_events clocks a.events (form_in test a.events a.body) ++ filter clocks (names_in_stmt a.body)

abbrev pub misused_in_net : (Text → Bool) → PlainNetName → List Text
misused_in_net clocks n = filter clocks (if_any names_in n.value)

abbrev pub misused_in_assign : (Text → Bool) → PlainAssign → List Text
misused_in_assign clocks a = filter clocks (names_in_target a.target) ++ filter clocks (names_in a.value)

-- A clock name may be linked as a whole to an input. (An input that it is linked to has width 1, as it has.)
abbrev pub is_whole_input : Seen → Linked → Option Text → Bool
is_whole_input k x None = false
is_whole_input k x (Some name) = (k.total x.name).input

abbrev pub misused_in_link : (Text → Bool) → Seen → Linked → List Text
misused_in_link clocks k x = cond (is_whole_input k x (whole_name x.value)) [] (filter clocks (names_in x.value))

abbrev pub misused_in_item : Placed → Seen → PlainItem → List Text
misused_in_item placed s (tree.Net d) = flat_map (misused_in_net (is_clock_of s)) d.names
misused_in_item placed s (tree.Assigns as') = flat_map (misused_in_assign (is_clock_of s)) as'
misused_in_item placed s (tree.AlwaysBlock a) = misused_in_block (is_clock_of s) (is_signal_at s) a
misused_in_item placed s (tree.Instances i) = over_copies (misused_in_link (is_clock_of s)) placed i.copies
misused_in_item placed s _ = []

-- a fault at a signal of an instance
abbrev pub at_signal : ElabCode → Seen → Text → Fault
at_signal code s name = fault_at code (s.prefix ++ name) 0

abbrev pub clock_faults_in : Placed → Seen → PlainItem → List Fault
clock_faults_in placed s x = map (at_signal code.ClockMisused s) (misused_in_item placed s x)

abbrev pub clock_row : Placed → Seen → List PlainItem → List Fault
clock_row placed s items = flat_map (clock_faults_in placed s) items

-- ---- ResetMisused: the reset of a reset form has to be a reset name

abbrev pub leads_to_input : Joined → Bool
leads_to_input (ToInput i) = true
leads_to_input _ = false

abbrev pub is_reset_name : Seen → Text → Bool
is_reset_name s name = leads_to_input (s.leads name) && nat_eq (s.width name) 1

abbrev pub misused_reset : Seen → Option ResetForm → List Fault
misused_reset s None = []
misused_reset s (Some f) = cond (is_reset_name s f.reset) [] (at_signal code.ResetMisused s f.reset ∷ [])

abbrev pub reset_faults_in : Seen → PlainItem → List Fault
reset_faults_in s (tree.AlwaysBlock a) = misused_reset s (form_in (is_signal_at s) a.events a.body)
reset_faults_in s _ = []

abbrev pub reset_row : Placed → Seen → List PlainItem → List Fault
reset_row placed s items = flat_map (reset_faults_in s) items
