-- The rows of refusals over the items of an instance: faults of expressions, BadTarget, PortWidth and Edges, each the list of its
-- faults in the order of the text.
use Rattle.std.specs.Prelude.{ℕ, nat_eq, Bool, true, false, not, ◌&&◌, ◌||◌, cond, List, [], ◌∷◌, ◌++◌, Option, Some, None, map, is_some}
use Rattle.std.specs.List.{flat_map, list_any, enumerate_from}
use Rattle.rst_tree.specs.Trees.{Text, Tree, Trees}
use Rattle.rst_tree.specs.Trees as expr
use Rattle.rst_tree.specs.Targets.{Place, Places}
use Rattle.rst_tree.specs.Targets as target
use Rattle.rst_tree.specs.Statements.{Statement, Statements, Arms}
use Rattle.rst_tree.specs.Statements as stmt
use Rattle.rst_tree.specs.Modules.{PlainNetName, PlainAssign, PlainEvents, PlainAlways, PlainCopied, PlainItem, OneOf}
use Rattle.rst_tree.specs.Modules as tree
use Rattle.rst_width.specs.declared.typed_expr.WidthFault.{WidthFault}
use Rattle.rst_width.specs.Scopes.{Names}
use Rattle.rst_width.specs.Sized.{Answer}
use Rattle.rst_width.specs.Typed.{names_signal}
use Rattle.rst_width.specs.Answers.{own_shape, typed_answer}
use Rattle.rst_names.specs.declared.faults.ElabCode.TheVariants as code
use Rattle.rst_names.specs.Faults.{Fault, fault_at, fault_if}
use Rattle.rst_names.specs.Names.{if_any}
use Rattle.rst_instances.specs.Parameters.{Linked, links_to, code_of}
use Rattle.rst_instances.specs.Places.{Located}
use Rattle.rst_typing.specs.Typing.{typed_or, answer_faults, is_settable, target_answer, set_faults, stmt_faults}
use Rattle.rst_items.specs.ResetForms.{form_in, is_clocked, is_rising}
use Rattle.rst_items.specs.Seen.{Seen, Placed}
use Rattle.rst_items.specs.Items.{over_copies, of_instance, is_signal_at}

-- ---- Faults of expressions, targets and labels, at the item.

-- an input link is typed with the port's width as context, an output link by itself
abbrev pub link_context : Seen → Linked → ℕ
link_context c l = cond (c.total l.name).input (c.width l.name) 0

abbrev pub link_answer : Names → Seen → Linked → Answer
link_answer names c l = typed_answer names l.value (link_context c l)

abbrev pub link_faults : Names → Seen → Linked → List WidthFault
link_faults names c l = answer_faults (link_answer names c l)

abbrev pub wire_faults : Names → PlainNetName → List WidthFault
wire_faults names n = if_any (set_faults names (target.Whole n.name)) n.value

abbrev pub assign_faults : Names → PlainAssign → List WidthFault
assign_faults names a = set_faults names a.target a.value

abbrev pub item_faults : Placed → Seen → PlainItem → List WidthFault
item_faults placed s (tree.Net d) = flat_map (wire_faults s.names) d.names
item_faults placed s (tree.Assigns as') = flat_map (assign_faults s.names) as'
item_faults placed s (tree.AlwaysBlock a) = stmt_faults s.names a.body
item_faults placed s (tree.Instances i) = over_copies (link_faults s.names) placed i.copies
item_faults placed s _ = []

-- the fault of an expression, at item n of an instance
abbrev pub at_item : Seen → ℕ → WidthFault → Fault
at_item s n fault = fault_at (code_of fault) s.path n

abbrev pub faults_in : Placed → Seen → ℕ × PlainItem → List Fault
faults_in placed s numbered = map (at_item s numbered.0) (item_faults placed s numbered.1)

abbrev pub fault_row : Placed → Seen → List PlainItem → List Fault
fault_row placed s items = flat_map (faults_in placed s) (enumerate_from 1 items)

-- ---- BadTarget: assigns and output links set wires alone that are no inputs, and blocks set regs alone; no part of a target has a
-- variable index, and the value of an output link has the form of a target.

-- Whether all names that a target sets are of this kind.
abbrev mutual
  pub sets_all : (Text → Bool) → Place → Bool
  sets_all kind (target.Whole n) = kind n
  sets_all kind (target.Bit n i) = kind n
  sets_all kind (target.Part n h l) = kind n
  sets_all kind (target.Join ts) = all_set kind ts

  pub all_set : (Text → Bool) → Places → Bool
  all_set kind target.end = true
  all_set kind (target.more t ts) = sets_all kind t && all_set kind ts

-- Whether an expression has the form of a target, all names of which are of this kind. One in parentheses has not.
abbrev mutual
  pub is_target_of : (Text → Bool) → Tree → Bool
  is_target_of kind (expr.Name n) = kind n
  is_target_of kind (expr.Bit n i) = kind n
  is_target_of kind (expr.Part n h l) = kind n
  is_target_of kind (expr.Join es) = are_targets_of kind es
  is_target_of kind _ = false

  pub are_targets_of : (Text → Bool) → Trees → Bool
  are_targets_of kind expr.end = true
  are_targets_of kind (expr.more e es) = is_target_of kind e && are_targets_of kind es

-- an assign drives a wire: a signal that is no reg and no input of its module
abbrev pub is_wire : Seen → Text → Bool
is_wire s n = (s.total n).signal && (not (s.total n).reg && not (s.total n).input)

abbrev pub is_reg : Seen → Text → Bool
is_reg s n = (s.total n).reg

-- A target is bad where one of its names is not of this kind, or it has a part with a variable index.
abbrev pub is_bad_target : Names → (Text → Bool) → Place → Bool
is_bad_target names kind t = not (sets_all kind t) || not (is_settable (typed_or (target_answer names t)))

-- An output link is bad where it has not the form of a target, and where that target, which is the same text, is bad.
abbrev pub is_bad_output : Names → (Text → Bool) → Tree → Bool
is_bad_output names kind e = not (is_target_of kind e) || not (is_settable (typed_or (typed_answer names e 0)))

abbrev pub is_bad_link : Seen → Seen → Linked → Bool
is_bad_link s k x = not (k.total x.name).input && is_bad_output s.names (is_wire s) x.value

abbrev pub has_bad_link : Seen → PlainCopied → Option Seen → Bool
has_bad_link s c None = false
has_bad_link s c (Some k) = list_any (is_bad_link s k) (links_to k.port_names c.ports)

-- Whether a statement has a set with a bad target. What it sets is of this kind.
abbrev mutual
  pub has_bad_set : Names → (Text → Bool) → Statement → Bool
  has_bad_set names kind (stmt.Block ss) = have_bad_set names kind ss
  has_bad_set names kind (stmt.If c s) = has_bad_set names kind s
  has_bad_set names kind (stmt.IfElse c s t) = has_bad_set names kind s || has_bad_set names kind t
  has_bad_set names kind (stmt.Case wild e arms) = arms_have_bad_set names kind arms
  has_bad_set names kind (stmt.Set t e blocking) = is_bad_target names kind t
  has_bad_set names kind stmt.Empty = false

  pub have_bad_set : Names → (Text → Bool) → Statements → Bool
  have_bad_set names kind stmt.end = false
  have_bad_set names kind (stmt.more s ss) = has_bad_set names kind s || have_bad_set names kind ss

  pub arms_have_bad_set : Names → (Text → Bool) → Arms → Bool
  arms_have_bad_set names kind stmt.no_arm = false
  arms_have_bad_set names kind (stmt.labels es s others) = has_bad_set names kind s || arms_have_bad_set names kind others
  arms_have_bad_set names kind (stmt.otherwise s others) = has_bad_set names kind s || arms_have_bad_set names kind others

-- a wire with a value is set as a whole
abbrev pub is_bad_wire : Seen → PlainNetName → Bool
is_bad_wire s n = is_some n.value && is_bad_target s.names (is_wire s) (target.Whole n.name)

abbrev pub is_bad_assign : Seen → PlainAssign → Bool
is_bad_assign s a = is_bad_target s.names (is_wire s) a.target

abbrev pub has_bad_target : Placed → Seen → PlainItem → Bool
has_bad_target placed s (tree.Net d) = list_any (is_bad_wire s) d.names
has_bad_target placed s (tree.Assigns as') = list_any (is_bad_assign s) as'
has_bad_target placed s (tree.AlwaysBlock a) = has_bad_set s.names (is_reg s) a.body
has_bad_target placed s (tree.Instances i) = list_any (λ c. has_bad_link s c (placed c)) i.copies
has_bad_target placed s _ = false

abbrev pub target_faults : Placed → Seen → ℕ × PlainItem → List Fault
target_faults placed s numbered = fault_if (has_bad_target placed s numbered.1) code.BadTarget s.path numbered.0

abbrev pub target_row : Placed → Seen → List PlainItem → List Fault
target_row placed s items = flat_map (target_faults placed s) (enumerate_from 1 items)

-- ---- PortWidth: a link has the width of its port, but that an input converts a constant. It is told at the port.

abbrev pub is_converted : Names → Seen → Linked → Bool
is_converted names c l = (c.total l.name).input && not (names_signal (typed_or (link_answer names c l)))

abbrev pub link_width : Names → Seen → Linked → List Fault
link_width names c l =
    fault_if (not (nat_eq (own_shape names l.value).width (c.width l.name)) && not (is_converted names c l)) code.PortWidth (c.prefix ++ l.name) 0

abbrev pub item_widths : Placed → Seen → PlainItem → List Fault
item_widths placed s (tree.Instances i) = over_copies (link_width s.names) placed i.copies
item_widths placed s _ = []

abbrev pub width_row : Placed → Seen → List PlainItem → List Fault
width_row placed s items = flat_map (item_widths placed s) items

-- ---- Edges: an event list with an edge is one `posedge`, or that of a block in reset form.

abbrev pub is_one_posedge : PlainEvents → Bool
is_one_posedge (OneOf (e ∷ [])) = is_rising e.edge
is_one_posedge _ = false

-- (`test` says of a name whether it is one of a signal.)
abbrev pub has_bad_edges : (Text → Bool) → PlainAlways → Bool
has_bad_edges test a = is_clocked a.events && (not (is_one_posedge a.events) && not (is_some (form_in test a.events a.body)))

abbrev pub is_bad_item : (Text → Bool) → PlainItem → Bool
is_bad_item test (tree.AlwaysBlock a) = has_bad_edges test a
is_bad_item test _ = false

abbrev pub edge_faults : (Text → Bool) → Text → ℕ × PlainItem → List Fault
edge_faults test path numbered = fault_if (is_bad_item test numbered.1) code.Edges path numbered.0

abbrev pub edge_row : Placed → Seen → List PlainItem → List Fault
edge_row placed s items = flat_map (edge_faults (is_signal_at s) s.path) (enumerate_from 1 items)

-- ---- Row by row over all instances: expressions, BadTarget, PortWidth, Edges.

abbrev pub rows_over : (Placed → Seen → List PlainItem → List Fault) → List Located → List Fault
rows_over row ls = flat_map (of_instance row ls) ls

abbrev pub item_row_faults : List Located → List Fault
item_row_faults ls = rows_over fault_row ls ++ (rows_over target_row ls ++ (rows_over width_row ls ++ rows_over edge_row ls))
