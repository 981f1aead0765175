-- How the code shows instances whose ranges are worked out.
use Rattle.std.specs.Prelude.{◌≡◌, ℕ, ◌+◌, List, [], ◌∷◌, map}
use Rattle.rst_tree.specs.Modules.{PlainModule}
use Rattle.rst_width.specs.Scopes.{Extent, Signal, names_of, extent_of}
use Rattle.rst_names.specs.Declarations.{Declared, signals}
use Rattle.rst_instances.specs.declared.design as design
use Rattle.rst_instances.specs.Parameters.{Known, known}
use Rattle.rst_instances.specs.Places.{Located, names_at, extent_in}
use Rattle.rst_instances.specs.Tables.{module_at, plain_place, IsPlace}

abbrev pub plain_located : List PlainModule → design.Located.Located → Located
plain_located modules l = record { place = plain_place modules l.place; base = l.base }

-- Its names and the shapes of its signals are those of the definition.
pub record IsLocated (modules : List PlainModule) (l : design.Located.Located) : Type 0 where
  pub place_right : IsPlace modules l.place
  pub names_right : names_of l.names ≡ names_at (plain_located modules l)
  pub shapes_right : map extent_of l.shapes.items ≡ map (extent_in (plain_place modules l.place)) (signals (module_at modules l.place.of))

-- Signals with these extents, which take their numbers from `base` on.
abbrev pub shown_signals : ℕ → List Declared → List Extent → List Known
shown_signals base [] es = []
shown_signals base (d ∷ ds) [] = []
shown_signals base (d ∷ ds) (e ∷ es) = known d.name (Signal base e) ∷ shown_signals (base + 1) ds es
