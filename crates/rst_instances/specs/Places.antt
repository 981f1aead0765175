-- Instances: each with its path, its module, the values of its parameters, and the clocks and resets among its inputs.
use Rattle.std.specs.Prelude.{ℕ, zero, suc, ◌+◌, nat_lt, Bool, true, false, cond, ◌||◌, List, [], ◌∷◌, ◌++◌, Option, Some, None, map, find, length, Result, Ok, Err, unsigned_abs}
use Rattle.std.specs.List.{flat_map, enumerate_from}
use Rattle.rst_tree.specs.Trees.{Text, Tree}
use Rattle.rst_tree.specs.Trees as expr
use Rattle.rst_tree.specs.Modules.{PlainRange, PlainInstance, PlainCopied, PlainModule}
use Rattle.rst_width.specs.Scopes.{Extent, Names, Signal}
use Rattle.rst_names.specs.declared.faults.ElabCode.{ElabCode}
use Rattle.rst_names.specs.Names.{same_text}
use Rattle.rst_names.specs.Declarations.{Declared, signal_named, signals, ports, settable}
use Rattle.rst_hierarchy.specs.Hierarchy.{module_named, instances_in}
use Rattle.rst_instances.specs.Parameters.{Known, known, names_from, Ends, ends_answer, is_bad_range, width_of, Valued, Linked, links_to, link_to, known_values, names_behind, values_of}

-- ---- clock names and reset names

-- "A clock name is the top's clock, or an input that a whole link joins to a clock name." "A reset name is an input of the top
-- of width 1 other than the clock, or an input of width 1 that a whole link joins to a reset name."
pub data Joined : Type 0 where
  Apart : Joined
  ToClock : Joined
  -- the number of the top's input that it leads to, whatever its width
  ToInput : ℕ → Joined

pub record Port : Type 0 where
  pub name : Text
  pub joined : Joined

abbrev pub joined_or : Option Port → Joined
joined_or None = Apart
joined_or (Some p) = p.joined

-- what a name is joined to: only ports lead outside
abbrev pub joined_of : List Port → Text → Joined
joined_of joins name = joined_or (find (λ p. same_text p.name name) joins)

-- A whole link is a bare name.
abbrev pub whole_name : Tree → Option Text
whole_name (expr.Name n) = Some n
whole_name _ = None

abbrev pub joined_by : List Port → Option Text → Joined
joined_by outside None = Apart
joined_by outside (Some name) = joined_of outside name

abbrev pub linked_name : Option Linked → Option Text
linked_name None = None
linked_name (Some l) = whole_name l.value

abbrev pub port_join : List Port → List Linked → PlainModule → Text → Port
port_join outside links m port = record {
  name = port;
  joined = cond (signal_named m port).input (joined_by outside (linked_name (link_to links port))) Apart;
}

-- the top's clock, and its other inputs
abbrev pub is_clock : Option Text → Text → Bool
is_clock None name = false
is_clock (Some clock) name = same_text clock name

abbrev pub top_join : Option Text → PlainModule → ℕ × Text → Port
top_join clock m numbered = record {
  name = numbered.1;
  joined = cond (signal_named m numbered.1).input (cond (is_clock clock numbered.1) ToClock (ToInput numbered.0)) Apart;
}

-- ---- instances

-- An instance: its path, which is the word TOP for the top, what its names begin with in the flat design, its module, the values
-- of its parameters, and what its ports are joined to.
pub record Place : Type 0 where
  pub path : Text
  pub prefix : Text
  pub of : PlainModule
  pub values : List Valued
  pub joins : List Port

-- "Below the top it is the instance path and the name joined by `.`"
abbrev pub dot : Text
dot = 46 ∷ []

abbrev pub child : Place → PlainInstance → PlainModule → PlainCopied → Place
child p i m c = record {
  path = p.prefix ++ c.name;
  prefix = (p.prefix ++ c.name) ++ dot;
  of = m;
  values = values_of m (names_behind p.of p.values) (links_to (settable m) i.params);
  joins = map (port_join p.joins (links_to (ports m) c.ports) m) (ports m);
}

abbrev pub copies : Place → PlainInstance → Option PlainModule → List Place
copies p i None = []
copies p i (Some m) = map (child p i m) i.copies

-- the instances that an instance's module places, in the order of its text
abbrev pub children : List PlainModule → Place → List Place
children modules p = flat_map (λ i. copies p i (module_named modules i.of_module)) (flat_map instances_in p.of.items)

abbrev pub top_place : Text → PlainModule → Option Text → Place
top_place top m clock = record {
  path = top;
  prefix = [];
  of = m;
  values = values_of m (names_behind m []) [];
  joins = map (top_join clock m) (enumerate_from 0 (ports m));
}

-- An instance and those below it, to a depth of n, in pre-order: each stands before what it places.
unfoldable pub below : ℕ → List PlainModule → Place → List Place
below zero modules p = p ∷ []
below (suc n) modules p = p ∷ flat_map (below n modules) (children modules p)

-- All instances of a design. (No hierarchy that is accepted is deeper than 16.)
abbrev pub instances : List PlainModule → Text → PlainModule → Option Text → List Place
instances modules top m clock = below 16 modules (top_place top m clock)

-- ---- the signals of an instance

-- The width and low end of a signal, with plain defaults where its range is faulty. One without a range is a scalar.
abbrev pub ranged_as : Bool → ℕ → ℕ → Extent
ranged_as signed width low = record { width = width; low = low; signed = signed; ranged = true }

abbrev pub ranged_extent : Bool → Result Ends ElabCode → Extent
ranged_extent signed (Ok ends) =
    cond (is_bad_range ends || nat_lt 64 (width_of ends)) (ranged_as signed 1 0) (ranged_as signed (width_of ends) (unsigned_abs ends.low))
ranged_extent signed (Err e) = ranged_as signed 1 0

abbrev pub extent_by : Names → Bool → Option PlainRange → Extent
extent_by names signed None = record { width = 1; low = 0; signed = signed; ranged = false }
extent_by names signed (Some r) = ranged_extent signed (ends_answer names r)

-- "A signal's range may use parameters declared later": all values are known.
abbrev pub extent_in : Place → Declared → Extent
extent_in p d = extent_by (names_behind p.of p.values) d.signed d.range

-- An instance, with the number of its first signal in flat order.
pub record Located : Type 0 where
  pub place : Place
  pub base : ℕ

-- Signals stand in flat order: instances in pre-order.
abbrev pub located_from : ℕ → List Place → List Located
located_from base [] = []
located_from base (p ∷ ps) = record { place = p; base = base } ∷ located_from (base + length (signals p.of)) ps

abbrev pub located : List Place → List Located
located places = located_from 0 places

abbrev pub known_signal : Place → ℕ × Declared → Known
known_signal p numbered = known numbered.1.name (Signal numbered.0 (extent_in p numbered.1))

abbrev pub known_signals : Located → List Known
known_signals l = map (known_signal l.place) (enumerate_from l.base (signals l.place.of))

-- What the names of an instance stand for: parameters for their values, signals for their numbers and extents.
abbrev pub names_at : Located → Names
names_at l = names_from (known_values l.place.values ++ known_signals l)

-- the instance whose names begin so
abbrev pub with_prefix : List Located → Text → Option Located
with_prefix ls prefix = find (λ l. same_text l.place.prefix prefix) ls

-- the instance that a copy places
abbrev pub copy_of : List Located → Located → PlainCopied → Option Located
copy_of ls l c = with_prefix ls ((l.place.prefix ++ c.name) ++ dot)

-- the flat name of a signal or a parameter of an instance
abbrev pub flat_name : Place → Text → Text
flat_name p name = p.prefix ++ name

-- the width of a signal of an instance
abbrev pub width_in : Place → Text → ℕ
width_in p name = (extent_in p (signal_named p.of name)).width
