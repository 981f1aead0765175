-- What elaboration answers: the first fault of all rows in their order, or the flat design where there is none.
use Rattle.std.specs.Prelude.{◌≡◌, List, [], ◌∷◌, ◌++◌, Option, Some, None}
use Rattle.rst_tree.specs.Trees.{Text}
use Rattle.rst_tree.specs.Modules.{PlainModule}
use Rattle.rst_net.specs.Units.{PlainFlat}
use Rattle.rst_names.specs.declared.faults.ElabCode.TheVariants as code
use Rattle.rst_names.specs.Faults.{Fault, fault_at}
use Rattle.rst_names.specs.Declarations.{signals}
use Rattle.rst_hierarchy.specs.Hierarchy.{module_named, text_faults, hierarchy_faults, name_faults}
use Rattle.rst_instances.specs.Places.{Place, Located, top_place, instances, located}
use Rattle.rst_instances.specs.RangeRows.{range_row_faults}
use Rattle.rst_items.specs.Seen.{Seen, seen}
use Rattle.rst_items.specs.ItemRows.{rows_over, item_row_faults}
use Rattle.rst_elab.specs.ClockRows.{clock_missing, clock_row, reset_row}
use Rattle.rst_elab.specs.Flats.{flat_of}
use Rattle.rst_drivers.specs.FlatRows.{flat_faults}

-- the first of all instances, as its items see it
abbrev pub seen_first : Place → Seen
seen_first p = seen (record { place = p; base = 0 })

-- Row by row over all instances: ClockMissing, ClockMisused, ResetMisused.
abbrev pub clock_faults : Seen → Option Text → List Located → List Fault
clock_faults top clock ls = clock_missing top clock ++ (rows_over clock_row ls ++ rows_over reset_row ls)

-- The flat design of instances, the first of which is the top.
abbrev pub flat_from : Place → List Place → PlainFlat
flat_from top ps = flat_of (signals top.of) (located ps)

-- Their faults, in the order of the rows, once their ranges have none.
abbrev pub located_faults : Option Text → Place → List Place → List Fault
located_faults clock top ps =
    item_row_faults (located ps) ++ (clock_faults (seen_first top) clock (located ps) ++ flat_faults (flat_from top ps))

abbrev pub place_faults : Option Text → Place → List Place → List Fault
place_faults clock top ps = range_row_faults ps ++ located_faults clock top ps

-- The flat design below a top, and all faults of the design below it, in the order of the rows.
abbrev pub flat_below : List PlainModule → Text → Option Text → PlainModule → PlainFlat
flat_below modules top clock m = flat_from (top_place top m clock) (instances modules top m clock)

abbrev pub faults_below : List PlainModule → Text → Option Text → PlainModule → List Fault
faults_below modules top clock m =
    hierarchy_faults modules m ++ (name_faults modules m ++ place_faults clock (top_place top m clock) (instances modules top m clock))

-- Without a module of the top's name that is the one fault.
abbrev pub faults_of_top : List PlainModule → Text → Option Text → Option PlainModule → List Fault
faults_of_top modules top clock None = fault_at code.NoTop [] 0 ∷ []
faults_of_top modules top clock (Some m) = faults_below modules top clock m

-- All faults of a design, in the order of the rows: the first is its refusal, and without one it is accepted.
abbrev pub faults : List PlainModule → Text → Option Text → List Fault
faults modules top clock = text_faults modules ++ faults_of_top modules top clock (module_named modules top)

-- The flat design of an accepted one.
pub record IsFlat (modules : List PlainModule) (top : Text) (clock : Option Text) (answer : PlainFlat) : Type 0 where
  pub of : PlainModule
  pub is_top : module_named modules top ≡ Some of
  pub flat : answer ≡ flat_below modules top clock of
