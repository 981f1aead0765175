-- How the code shows clock names, and the signals of the flat design.
use Rattle.std.specs.Prelude.{◌≡◌, ℕ, ◌+◌, ◌≤◌, Bool, false, cond, List, [], ◌++◌, Option, Some, None, map, nat_eq, position, slice_get}
use Rattle.std.specs.List.{All, enumerate_from}
use Rattle.std.specs.Cmp.Lexicographic.{pointwise}
use Rattle.indexmap.specs.IndexMap.{IndexMap, get}
use Rattle.rst_tree.specs.Trees.{Text}
use Rattle.rst_tree.specs.Modules.{PlainModule}
use Rattle.rst_tree.specs.WellFormed.{WellFormed}
use Rattle.rst_width.specs.declared.scope.SignalShape.{SignalShape}
use Rattle.rst_width.specs.Scopes.{Extent, extent_of}
use Rattle.rst_net.specs.declared.signal.Role.{Role}
use Rattle.rst_net.specs.declared.signal.Role.TheVariants as role
use Rattle.rst_net.specs.Units.{PlainSignal, plain_driver, plain_process}
use Rattle.rst_names.specs.declared.facts.Facts.{Facts}
use Rattle.rst_names.specs.Names.{same_text}
use Rattle.rst_names.specs.Declarations.{Declared}
use Rattle.rst_names.specs.Tables.{plain_declared}
use Rattle.rst_hierarchy.specs.Hierarchy.{instance_count}
use Rattle.rst_hierarchy.specs.Tables.{AreFacts}
use Rattle.rst_instances.specs.declared.design.Design.{Design}
use Rattle.rst_instances.specs.declared.design.Located.{Located}
use Rattle.rst_instances.specs.declared.places.Place.{Place}
use Rattle.rst_instances.specs.Locations.{plain_located, IsLocated}
use Rattle.rst_instances.specs.Places as plain
use Rattle.rst_instances.specs.Places.{located}
use Rattle.rst_instances.specs.Tables.{leads_to, IsDesign}
use Rattle.rst_items.specs.declared.links.Whole.{Whole}
use Rattle.rst_units.specs.declared.items.Units.{Units}
use Rattle.rst_items.specs.Items.{is_clock_name, units, clocked}
use Rattle.rst_items.specs.Tables.{seen_by, facts_at, IsWhole, located_in}
use Rattle.rst_drivers.specs.declared.drives.Drive.{Drive}
use Rattle.rst_elab.specs.declared.clocks.IsClock.{IsClock}
use Rattle.rst_elab.specs.Flats.{role_of}

-- whether a name of an instance is a clock name
abbrev pub leads_to_clock : Place → Facts → Text → Bool
leads_to_clock p f name = is_clock_name (leads_to p f name)

-- the test that the code makes of it
abbrev pub test_of : IsClock → Text → Bool
test_of t name = leads_to_clock t.place.now t.facts.now name

-- the role of a signal by what drives it; nothing drives one that the table hasn't
abbrev pub driven_by : Option Drive → Role
driven_by None = role.Idle
driven_by (Some d) = cond d.by_clocked role.Register (cond d.by_block role.Block (cond d.assigned role.Wire role.Idle))

abbrev pub driven_in : List Drive → ℕ → Role
driven_in drives signal = driven_by (slice_get drives signal)

-- the extent of a signal; a scalar where there is none
abbrev pub extent_or : Option SignalShape → Extent
extent_or None = record { width = 1; low = 0; signed = false; ranged = false }
extent_or (Some s) = extent_of s

-- the signal of an instance that has this number in its module
abbrev pub signal_by : List Drive → Facts → Located → ℕ × Declared → PlainSignal
signal_by drives f l numbered = record {
  name = l.place.prefix ++ numbered.1.name;
  extent = extent_or (slice_get l.shapes.items numbered.0);
  role = role_of (driven_in drives) (seen_by f l) (l.base + numbered.0) numbered.1;
}

abbrev pub signals_by : List Drive → Located → Option Facts → List PlainSignal
signals_by drives l None = []
signals_by drives l (Some f) = map (signal_by drives f l) (enumerate_from 0 (map plain_declared f.signals.items))

abbrev pub signals_in : List Drive → Whole → Located → List PlainSignal
signals_in drives w l = signals_by drives l (facts_at w l)

-- These instances of a design of these modules, in flat order.
pub record AreAll (modules : List PlainModule) (ps : List plain.Place) (d : Design) (all : List Located) : Type 0 where
  pub declared : AreFacts modules d.facts.now
  pub instances : All (IsLocated modules) all
  pub same : map (plain_located modules) all ≡ located ps

-- the first place of each text that the names of an instance begin with
abbrev pub ArePrefixes : {S : Type 0} → IndexMap Text ℕ S → List Located → Type 0
ArePrefixes table all = (prefix : Text) → get (pointwise nat_eq) table prefix ≡ position (λ l. same_text l.place.prefix prefix) all

-- the same of a whole design
pub record IsAll (modules : List PlainModule) (ps : List plain.Place) (w : Whole) : Type 0 where
  pub whole : IsWhole modules w
  pub all : located_in modules w ≡ located ps

-- units and clocked blocks of these instances
pub record AreUnits (ls : List plain.Located) (made : Units) : Type 0 where
  pub units : map plain_driver made.units.items ≡ units ls
  pub clocked : map plain_process made.clocked.items ≡ clocked ls

-- A design of well formed modules, whose top is at this place, with at most 1,024 instances.
pub record IsReady (modules : List PlainModule) (top : PlainModule) (of : ℕ) (d : Design) : Type 0 where
  pub design : IsDesign modules d
  pub formed : All WellFormed modules
  pub at : slice_get modules of ≡ Some top
  pub few : instance_count 16 modules top ≤ 1024
