-- Rows over ranges, and the names of an instance whose ranges are worked out.
use Rattle.std.proofs.Common.{◌≡◌, ℕ, List, [], map, Option, refl, sym, ap, ◌∙◌}
use Rattle.std.proofs.Math.Path.{fun_ext}
use Rattle.std.proofs.lemmas.List.Folds.{flat_map-map}
use Rattle.std.specs.List.{flat_map}
use Rattle.rst_tree.specs.Trees.{Text}
use Rattle.rst_tree.specs.Modules.{PlainModule, plain_module}
use Rattle.rst_width.specs.Scopes.{Extent, Names, Meaning, names_with, either_of}
use Rattle.rst_names.specs.Declarations.{Declared, signals}
use Rattle.rst_instances.specs.declared.design as design
use Rattle.rst_instances.specs.declared.extents as memory
use Rattle.rst_instances.specs.declared.extents.RangeRow.TheVariants as row
use Rattle.rst_instances.specs.declared.places as code
use Rattle.rst_instances.specs.Parameters.{Known, names_from, known_values, names_behind}
use Rattle.rst_instances.specs.Places.{Place, extent_in, known_signals, names_at}
use Rattle.rst_instances.specs.RangeRows.{param_faults, ranged}
use Rattle.rst_instances.specs.Rows.{plain_ranged, range_faults, row_faults}
use Rattle.rst_instances.specs.Tables.{module_at, plain_place, IsPlace, AreTables}
use Rattle.rst_instances.specs.Locations.{shown_signals}
use Rattle.rst_instances.proofs.KnownLemmas.{names_from-append, shown-are-known}
use Rattle.rst_instances.proofs.ValueLemmas.{behind}

-- a row over one instance
row_is : (r : memory.RangeRow.RangeRow) (p : Place) → flat_map (range_faults r p.prefix (names_behind p.of p.values)) (ranged p.of) ≡ row_faults r p
row_is row.Ends p = refl
row_is row.BadRange p = refl
row_is row.TooWide p = refl

-- the names of an instance where constants are worked out
pub place_names : (modules : List PlainModule) (p : code.Place.Place) (t : design.Tables.Tables) → IsPlace modules p → AreTables (module_at modules p.of) t
    → names_with p.params t.unshaped.now ≡ names_behind (module_at modules p.of) (plain_place modules p).values
place_names modules p t is right = behind p.params t.unshaped.now (module_at modules p.of) (plain_place modules p).values is.values_known right.later

pub row_at : (modules : List PlainModule) (r : memory.RangeRow.RangeRow) (p : code.Place.Place) (t : design.Tables.Tables) (ds : List memory.Ranged.Ranged) → IsPlace modules p → AreTables (module_at modules p.of) t
    → map plain_ranged ds ≡ ranged (plain_module t.facts.now.«module».now) → flat_map (range_faults r p.prefix (names_with p.params t.unshaped.now)) (map plain_ranged ds) ≡ row_faults r (plain_place modules p)
row_at modules r p t ds is right listed =
    ap (λ (n : Names). flat_map (range_faults r p.prefix n) (map plain_ranged ds)) (place_names modules p t is right)
    ∙ ap (flat_map (range_faults r p.prefix (names_behind (module_at modules p.of) (plain_place modules p).values))) (listed ∙ ap ranged right.declared.of)
    ∙ row_is r (plain_place modules p)

-- faults of parameters say nothing of modules
pub params_same : (modules : List PlainModule) (ps : List code.Place.Place) → flat_map param_faults (map (plain_place []) ps) ≡ flat_map param_faults (map (plain_place modules) ps)
params_same modules ps = flat_map-map param_faults (plain_place []) ps ∙ sym (flat_map-map param_faults (plain_place modules) ps)

-- a table of values, and behind it of signals, is what the names stand for
pub names_are : (p : Place) (base : ℕ) (ds : List Declared) (es : List Extent) (a b : Names) → ds ≡ signals p.of → es ≡ map (extent_in p) (signals p.of)
    → ((name : Text) → a name ≡ names_from (known_values p.values) name) → ((name : Text) → b name ≡ either_of (a name) (names_from (shown_signals base ds es) name))
    → b ≡ names_at (record { place = p; base = base })
names_are p base ds es a b listed shaped first second = fun_ext (λ name.
    second name ∙ ap (λ (o : Option Meaning). either_of o (names_from (shown_signals base ds es) name)) (first name)
    ∙ ap (λ (ks : List Known). either_of (names_from (known_values p.values) name) (names_from ks name)) shown
    ∙ sym (names_from-append (known_values p.values) (known_signals (record { place = p; base = base })) name))
  where
    shown : shown_signals base ds es ≡ known_signals (record { place = p; base = base })
    shown = ap (λ (xs : List Declared). shown_signals base xs es) listed ∙ ap (shown_signals base (signals p.of)) shaped ∙ shown-are-known p base (signals p.of)
