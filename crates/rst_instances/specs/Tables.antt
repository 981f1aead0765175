-- How the code shows instances.
use Rattle.std.specs.Prelude.{◌≡◌, ℕ, ◌<◌, nat_eq, Bool, true, false, cond, List, [], ◌∷◌, Option, Some, None, Result, Ok, Err, map, slice_get, slice_index_or, length}
use Rattle.std.specs.Option.{option_and_then, option_map}
use Rattle.std.specs.Cmp.Lexicographic.{pointwise}
use Rattle.indexmap.specs.IndexMap.{get}
use Rattle.rst_word.specs.Plain.{plain_word}
use Rattle.rst_tree.specs.Trees.{Text, plain}
use Rattle.rst_tree.specs.Modules.{PlainModule, Plain}
use Rattle.rst_width.specs.declared.names.UnshapedNames.{UnshapedNames}
use Rattle.rst_width.specs.Scopes.{Names, names_of, names_with, later_of, unshaped_of}
use Rattle.rst_names.specs.declared.faults.ElabCode.{ElabCode}
use Rattle.rst_names.specs.declared.facts.Facts.{Facts}
use Rattle.rst_names.specs.Declarations.{ports}
use Rattle.rst_names.specs.Tables.{IsFacts, total_at}
use Rattle.rst_hierarchy.specs.Tables.{place_named, AreFacts}
use Rattle.rst_instances.specs.declared.design as design
use Rattle.rst_instances.specs.declared.ranges as ranges
use Rattle.rst_instances.specs.declared.bits as bits
use Rattle.rst_instances.specs.declared.parameters as memory
use Rattle.rst_instances.specs.declared.places as code
use Rattle.rst_instances.specs.declared.places.Joined.TheVariants as joined
use Rattle.rst_instances.specs.Parameters.{Linked, linked, Valued, Ends, unshaped, names_from, known_values}
use Rattle.rst_instances.specs.Places.{Joined, Apart, ToClock, ToInput, Port, Place, linked_name}

-- ---- constant expressions and ranges

-- the names of a place where constants are worked out
abbrev pub outside_names : ranges.Outside.Outside → Names
outside_names o = names_with o.scope.now o.unshaped.now

-- what an answer has, seen by this view
abbrev pub answer_of : {X Y : Type 0} → (X → Y) → Result X ElabCode → Result Y ElabCode
answer_of view (Ok x) = Ok (view x)
answer_of view (Err e) = Err e

abbrev pub plain_ends : ranges.Ends.Ends → Ends
plain_ends ends = record { high = ends.high; low = ends.low }

-- the number of bits of a range, where there is one
abbrev pub plain_bits : Option bits.Bits.Bits → Option ℕ
plain_bits o = option_map (λ b. b.count) o

-- ---- links and values

-- a link with a value
abbrev pub plain_linked : memory.Linked.Linked → Linked
plain_linked l = linked l.name.now (plain l.value.now)

abbrev pub plain_valued : memory.Valued.Valued → Valued
plain_valued v = record { name = v.name.now; value = answer_of plain_word v.value }

-- ---- what ports lead to

abbrev pub plain_joined : code.Joined.Joined → Joined
plain_joined joined.Apart = Apart
plain_joined joined.ToClock = ToClock
plain_joined (joined.ToInput i) = ToInput i

-- what the tables say that a name leads to
abbrev pub joined_or_apart : Option code.Joined.Joined → Joined
joined_or_apart None = Apart
joined_or_apart (Some j) = plain_joined j

abbrev pub leads_to : code.Place.Place → Facts → Text → Joined
leads_to p f name = joined_or_apart (option_and_then (λ i. slice_get p.joins.items i) (get (pointwise nat_eq) f.port_places name))

abbrev pub is_to_clock : Joined → Bool
is_to_clock ToClock = true
is_to_clock _ = false

abbrev pub leads_to_clock : code.Place.Place → Facts → Text → Bool
leads_to_clock p f name = is_to_clock (leads_to p f name)

-- what an input that is linked to this name leads to
abbrev pub led_by : code.Place.Place → Facts → Option Text → Joined
led_by p f None = Apart
led_by p f (Some name) = leads_to p f name

-- what a port leads to by its link, in the instance p around
abbrev pub joined_in : code.Place.Place → Facts → (Text → Option Linked) → Facts → Text → Joined
joined_in p around links f port = cond (total_at f port).input (led_by p around (linked_name (links port))) Apart

-- ports, and what each leads to
abbrev pub plain_ports : List Text → List code.Joined.Joined → List Port
plain_ports [] js = []
plain_ports (n ∷ ns) [] = []
plain_ports (n ∷ ns) (j ∷ js) = record { name = n; joined = plain_joined j } ∷ plain_ports ns js

-- ---- instances

-- The module at a place. (No instance has a place without a module.)
abbrev pub no_module : PlainModule
no_module = record { name = []; params = []; header = Plain []; items = [] }

abbrev pub module_at : List PlainModule → ℕ → PlainModule
module_at modules of = slice_index_or modules of no_module

abbrev pub plain_place : List PlainModule → code.Place.Place → Place
plain_place modules p = record {
  path = p.path;
  prefix = p.prefix;
  of = module_at modules p.of;
  values = map plain_valued p.values.items;
  joins = plain_ports (ports (module_at modules p.of)) p.joins.items;
}

-- An instance of one of these modules: its scope has the parameters that have a value.
pub record IsPlace (modules : List PlainModule) (p : code.Place.Place) : Type 0 where
  pub within : p.of < length modules
  pub values_known : names_of p.params ≡ names_from (known_values (map plain_valued p.values.items))

-- ---- the tables of a design

abbrev pub later_names : UnshapedNames → Names
later_names u name = later_of (unshaped_of u name)

pub record AreTables (m : PlainModule) (t : design.Tables.Tables) : Type 0 where
  pub declared : IsFacts m t.facts.now
  pub later : later_names t.unshaped.now ≡ names_from (unshaped m)

pub record IsDesign (modules : List PlainModule) (d : design.Design.Design) : Type 0 where
  pub places : (name : Text) → get (pointwise nat_eq) d.modules.now.places name ≡ place_named modules name
  pub declared : AreFacts modules d.facts.now
  pub later : map later_names d.unshaped.items ≡ map (λ m. names_from (unshaped m)) modules
