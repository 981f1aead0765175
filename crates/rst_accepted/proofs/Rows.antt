-- The rows of an accepted design: none of them has a fault.
use Rattle.std.proofs.Common.{◌≡◌, ◌∙◌, List, [], ◌∷◌, ◌++◌, Option, Some, None, refl, sym, ap, subst}
use Rattle.rst_tree.specs.Trees.{Text}
use Rattle.rst_tree.specs.Modules.{PlainModule}
use Rattle.rst_net.specs.Units.{PlainFlat}
use Rattle.rst_names.specs.Faults.{first}
use Rattle.rst_names.proofs.RowLemmas.{first-none_append}
use Rattle.rst_hierarchy.specs.Hierarchy.{module_named, text_faults, hierarchy_faults, name_faults}
use Rattle.rst_instances.specs.Places.{Place, top_place, instances, located}
use Rattle.rst_instances.specs.RangeRows.{range_row_faults}
use Rattle.rst_items.specs.ItemRows.{item_row_faults}
use Rattle.rst_drivers.specs.FlatRows.{flat_faults}
use Rattle.rst_elab.specs.Elaborated.{seen_first, clock_faults, flat_from, located_faults, place_faults, faults_below, faults_of_top, flat_below, faults, IsFlat}
use Rattle.rst_accepted.specs.Elaborated.{IsElaborated}

pub left_none : {X : Type 0} (a b : List X) → first (a ++ b) ≡ None → first a ≡ None
left_none [] b h = refl
left_none (x ∷ a) b h = cc

pub right_none : {X : Type 0} (a b : List X) → first (a ++ b) ≡ None → first b ≡ None
right_none a b h = sym (first-none_append a b (left_none a b h)) ∙ h

-- the instances of an elaborated design
abbrev pub places_of : {flat : PlainFlat} → IsElaborated flat → List Place
places_of e = instances e.modules e.top e.is.of e.clock

abbrev pub first_of : {flat : PlainFlat} → IsElaborated flat → Place
first_of e = top_place e.top e.is.of e.clock

-- no row has a fault
pub record RowsPass (flat : PlainFlat) (e : IsElaborated flat) : Type 0 where
  pub texts : first (text_faults e.modules) ≡ None
  pub hierarchy : first (hierarchy_faults e.modules e.is.of) ≡ None
  pub names : first (name_faults e.modules e.is.of) ≡ None
  pub ranges : first (range_row_faults (places_of e)) ≡ None
  pub items : first (item_row_faults (located (places_of e))) ≡ None
  pub clocks : first (clock_faults (seen_first (first_of e)) e.clock (located (places_of e))) ≡ None
  pub drivers : first (flat_faults flat) ≡ None

pub rows_pass : (flat : PlainFlat) (e : IsElaborated flat) → RowsPass flat e
rows_pass flat e =
    let modules : List PlainModule = e.modules in
    let clock : Option Text = e.clock in
    let m : PlainModule = e.is.of in
    let ps : List Place = places_of e in
    let top : Place = first_of e in
    let below : first (faults_below modules e.top clock m) ≡ None =
    subst (λ o. first (faults_of_top modules e.top clock o) ≡ None) e.is.is_top
    (right_none (text_faults modules) (faults_of_top modules e.top clock (module_named modules e.top)) e.none) in
    let behind = right_none (hierarchy_faults modules m) (name_faults modules m ++ place_faults clock top ps) below in
    let placed = right_none (name_faults modules m) (place_faults clock top ps) behind in
    let there = right_none (range_row_faults ps) (located_faults clock top ps) placed in
    let rest = right_none (item_row_faults (located ps)) (clock_faults (seen_first top) clock (located ps) ++ flat_faults (flat_from top ps)) there in
    record {
      texts = left_none (text_faults modules) (faults_of_top modules e.top clock (module_named modules e.top)) e.none;
      hierarchy = left_none (hierarchy_faults modules m) (name_faults modules m ++ place_faults clock top ps) below;
      names = left_none (name_faults modules m) (place_faults clock top ps) behind;
      ranges = left_none (range_row_faults ps) (located_faults clock top ps) placed;
      items = left_none (item_row_faults (located ps)) (clock_faults (seen_first top) clock (located ps) ++ flat_faults (flat_from top ps)) there;
      clocks = left_none (clock_faults (seen_first top) clock (located ps)) (flat_faults (flat_from top ps)) rest;
      drivers = subst (λ f. first (flat_faults f) ≡ None) (sym e.is.flat) (right_none (clock_faults (seen_first top) clock (located ps)) (flat_faults (flat_from top ps)) rest);
    }
