-- From one step of elaboration to the next.
use Rattle.std.proofs.Common.{◌≡◌, ℕ, ◌^◌, ◌<◌, ◌≤◌, List, ◌∷◌, ◌++◌, map, length, Option, Some, None, slice_get, refl, sym, ap, subst, ◌∙◌, arith}
use Rattle.std.specs.List.{All, flat_map, sum_by}
use Rattle.std.specs.Option.{option_map}
use Rattle.std.proofs.lemmas.Option.{slice_get_within, slice_get-map, get_or_from_slice_get}
use Rattle.rst_tree.specs.Trees.{Text}
use Rattle.rst_tree.specs.Modules.{PlainModule}
use Rattle.rst_tree.specs.WellFormed.{WellFormed, parts_of}
use Rattle.rst_net.specs.Units.{PlainFlat, plain_driver, plain_process}
use Rattle.rst_names.specs.declared.faults.ElabError.{ElabError}
use Rattle.rst_names.specs.declared.facts.Facts.{Facts}
use Rattle.rst_names.specs.Faults.{Fault, Refuses, first}
use Rattle.rst_names.specs.Declarations.{ports, signals}
use Rattle.rst_names.specs.Tables.{IsFacts, plain_declared}
use Rattle.rst_names.proofs.RowLemmas.{none_append, refuses_front, refuses_behind}
use Rattle.rst_instances.specs.declared.design as memory
use Rattle.rst_instances.specs.declared.places as memory_places
use Rattle.rst_instances.specs.Locations.{plain_located, IsLocated}
use Rattle.rst_instances.specs.Places.{Place, Located, located, children, below, instances, top_place}
use Rattle.rst_instances.specs.Tables.{module_at, no_module, plain_place, IsPlace}
use Rattle.rst_items.specs.declared.links.Whole.{Whole}
use Rattle.rst_units.specs.declared.items.Units.{Units}
use Rattle.rst_items.specs.Seen.{seen}
use Rattle.rst_items.specs.Items.{units, clocked}
use Rattle.rst_items.specs.ItemRows.{rows_over, fault_row, target_row, width_row, edge_row}
use Rattle.rst_items.specs.Tables.{seen_by, facts_at, located_in}
use Rattle.rst_items.proofs.SeenLemmas.{facts-right, seen-is}
use Rattle.rst_drivers.specs.FlatRows.{flat_faults}
use Rattle.rst_elab.specs.Flats.{flat_of}
use Rattle.rst_elab.specs.Elaborated.{seen_first, clock_faults, flat_from, located_faults}
use Rattle.rst_elab.specs.Tables.{AreAll, AreUnits, IsAll, IsReady}
use Rattle.rst_elab.proofs.CountLemmas.{ports-few, few_signals}

-- The first instance, as its tables show it.
pub record IsFirst (p : Place) (f : Facts) (l : memory.Located.Located) : Type 0 where
  pub seen_so : seen_by f l ≡ seen_first p
  pub signals_so : map plain_declared f.signals.items ≡ signals p.of

pub first-is : (modules : List PlainModule) (p : Place) (ps : List Place) (w : Whole) (l : memory.Located.Located) (f : Facts)
    → IsAll modules (p ∷ ps) w → slice_get w.all.now 0 ≡ Some l → facts_at w l ≡ Some f → IsFirst p f l
first-is modules p ps w l f is at has =
    let within : 0 < length w.all.now = slice_get_within w.all.now 0 l at in
    let right : IsLocated modules l = subst (IsLocated modules) (get_or_from_slice_get w.all.now 0 l l at) (is.whole.instances 0 l within) in
    let told : IsFacts (module_at modules l.place.of) f = facts-right modules w.design.now.facts.now l.place.of f is.whole.declared has in
    let shown : Some (plain_located modules l) ≡ Some (record { place = p; base = 0 }) =
    sym (slice_get-map (plain_located modules) w.all.now 0 ∙ ap (option_map (plain_located modules)) at) ∙ ap (λ ls. slice_get ls 0) is.all in
    let same : plain_located modules l ≡ record { place = p; base = 0 } = cc in
    record {
      seen_so = seen-is modules f l told right ∙ ap seen same;
      signals_so = told.signal_facts ∙ ap (λ (k : Located). signals k.place.of) same;
    }

-- the top stands first
pub top-first : (modules : List PlainModule) (top : Text) (m : PlainModule) (clock : Option Text)
    → instances modules top m clock ≡ top_place top m clock ∷ flat_map (below 15 modules) (children modules (top_place top m clock))
unfolding below
top-first modules top m clock = refl

-- ---- the rows over instances whose ranges have no fault

-- BadTarget, PortWidth and Edges
abbrev pub item_rows : List Located → List Fault
item_rows ls = rows_over target_row ls ++ (rows_over width_row ls ++ rows_over edge_row ls)

module _ (e : ElabError) (a b x y : List Fault) where
  second-refuses : first a ≡ None → Refuses e b → Refuses e ((a ++ b) ++ (x ++ y))
  second-refuses none h = refuses_front e (a ++ b) (x ++ y) (refuses_behind e a b none h)

  third-refuses : first a ≡ None → first b ≡ None → Refuses e x → Refuses e ((a ++ b) ++ (x ++ y))
  third-refuses none none' h = refuses_behind e (a ++ b) (x ++ y) (none_append a b none none') (refuses_front e x y h)

  fourth-refuses : first a ≡ None → first b ≡ None → first x ≡ None → Refuses e y → Refuses e ((a ++ b) ++ (x ++ y))
  fourth-refuses none none' none'' h = refuses_behind e (a ++ b) (x ++ y) (none_append a b none none') (refuses_behind e x y none'' h)

module _ (modules : List PlainModule) (p : Place) (ps : List Place) (w : Whole) (clock : Option Text) (l : memory.Located.Located) (f : Facts)
    (is : IsAll modules (p ∷ ps) w) (at : slice_get w.all.now 0 ≡ Some l) (has : facts_at w l ≡ Some f) where
  its-first : IsFirst p f l
  its-first = first-is modules p ps w l f is at has

  abbrev here : List Located
  here = located_in modules w

  abbrev all : List Located
  all = located (p ∷ ps)

  none-there : (row : List Located → List Fault) → first (row here) ≡ None → first (row all) ≡ None
  none-there row h = subst (λ ls. first (row ls) ≡ None) is.all h

  clocks-same : clock_faults (seen_by f l) clock here ≡ clock_faults (seen_first p) clock all
  clocks-same = ap (λ s. clock_faults s clock here) its-first.seen_so ∙ ap (clock_faults (seen_first p) clock) is.all

  flat-same : flat_of (map plain_declared f.signals.items) all ≡ flat_from p (p ∷ ps)
  flat-same = ap (λ ds. flat_of ds all) its-first.signals_so

  pub items-refuse : (e : ElabError) → first (rows_over fault_row here) ≡ None → Refuses e (item_rows here) → Refuses e (located_faults clock p (p ∷ ps))
  items-refuse e units h =
      second-refuses e (rows_over fault_row all) (item_rows all) (clock_faults (seen_first p) clock all) (flat_faults (flat_from p (p ∷ ps)))
      (none-there (rows_over fault_row) units) (subst (λ ls. Refuses e (item_rows ls)) is.all h)

  pub clocks-refuse : (e : ElabError) → first (rows_over fault_row here) ≡ None → first (item_rows here) ≡ None
      → Refuses e (clock_faults (seen_by f l) clock here) → Refuses e (located_faults clock p (p ∷ ps))
  clocks-refuse e units items h =
      third-refuses e (rows_over fault_row all) (item_rows all) (clock_faults (seen_first p) clock all) (flat_faults (flat_from p (p ∷ ps)))
      (none-there (rows_over fault_row) units) (none-there item_rows items) (subst (Refuses e) clocks-same h)

  pub flat-refuses : (e : ElabError) → first (rows_over fault_row here) ≡ None → first (item_rows here) ≡ None → first (clock_faults (seen_by f l) clock here) ≡ None
      → Refuses e (flat_faults (flat_of (map plain_declared f.signals.items) all)) → Refuses e (located_faults clock p (p ∷ ps))
  flat-refuses e units items clocks h =
      fourth-refuses e (rows_over fault_row all) (item_rows all) (clock_faults (seen_first p) clock all) (flat_faults (flat_from p (p ∷ ps)))
      (none-there (rows_over fault_row) units) (none-there item_rows items) (ap first (sym clocks-same) ∙ clocks) (subst (λ (x : PlainFlat). Refuses e (flat_faults x)) flat-same h)

  pub none-refuses : first (rows_over fault_row here) ≡ None → first (item_rows here) ≡ None → first (clock_faults (seen_by f l) clock here) ≡ None
      → first (flat_faults (flat_of (map plain_declared f.signals.items) all)) ≡ None → first (located_faults clock p (p ∷ ps)) ≡ None
  none-refuses units items clocks flat =
      none_append (rows_over fault_row all ++ item_rows all) (clock_faults (seen_first p) clock all ++ flat_faults (flat_from p (p ∷ ps)))
      (none_append (rows_over fault_row all) (item_rows all) (none-there (rows_over fault_row) units) (none-there item_rows items))
      (none_append (clock_faults (seen_first p) clock all) (flat_faults (flat_from p (p ∷ ps))) (ap first (sym clocks-same) ∙ clocks)
      (ap (λ (x : PlainFlat). first (flat_faults x)) (sym flat-same) ∙ flat))

  pub units-given : (made : Units) → map plain_driver made.units.items ≡ units here → map plain_process made.clocked.items ≡ clocked here → AreUnits all made
  units-given made us cs = record { units = us ∙ ap units is.all; clocked = cs ∙ ap clocked is.all }

  pub flat-so : (x : PlainFlat) → x ≡ flat_of (map plain_declared f.signals.items) all → x ≡ flat_from p (p ∷ ps)
  flat-so x h = h ∙ flat-same

-- ---- from the places of instances to their signals

-- the instances below a top
pub record ArePlaced (modules : List PlainModule) (top : Text) (m : PlainModule) (clock : Option Text) (ps : List memory_places.Place.Place) : Type 0 where
  pub right : All (IsPlace modules) ps
  pub same : map (plain_place modules) ps ≡ instances modules top m clock

abbrev pub below_top : List PlainModule → Text → PlainModule → Option Text → List Place
below_top modules top m clock = flat_map (below 15 modules) (children modules (top_place top m clock))

module _ (modules : List PlainModule) (m : PlainModule) (of : ℕ) (d : memory.Design.Design) (ready : IsReady modules m of d) where
  pub top-within : of < length modules
  top-within = slice_get_within modules of m ready.at

  its-module : module_at modules of ≡ m
  its-module = get_or_from_slice_get modules of m no_module ready.at

  pub ports-fit : length (ports (module_at modules of)) ≤ 2 ^ 32
  ports-fit =
      let formed : WellFormed (module_at modules of) = ready.formed of no_module top-within in
      let most : length (ports (module_at modules of)) ≤ parts_of (module_at modules of) = ports-few (module_at modules of) in
      let few : parts_of (module_at modules of) ≤ 1048576 = formed.few in
      omega arith

  pub are-placed : (top : Text) (clock : Option Text) (ps : List memory_places.Place.Place) → All (IsPlace modules) ps
      → map (plain_place modules) ps ≡ instances modules top (module_at modules of) clock → ArePlaced modules top m clock ps
  are-placed top clock ps right same = record { right = right; same = same ∙ ap (λ k. instances modules top k clock) its-module }

  pub signals-fit : (top : Text) (clock : Option Text) (ps : List memory_places.Place.Place) → ArePlaced modules top m clock ps
      → sum_by (λ p. length (signals p.of)) (map (plain_place modules) ps) < 2 ^ 32
  signals-fit top clock ps are = few_signals modules top m clock ps ready.formed are.right ready.few are.same

  pub are-all : (top : Text) (clock : Option Text) (ps : List memory_places.Place.Place) (ls : List memory.Located.Located) → ArePlaced modules top m clock ps
      → map (plain_located modules) ls ≡ located (map (plain_place modules) ps) → All (IsLocated modules) ls
      → AreAll modules (top_place top m clock ∷ below_top modules top m clock) d ls
  are-all top clock ps ls are same right = record {
    declared = ready.design.declared;
    instances = right;
    same = same ∙ ap located (are.same ∙ top-first modules top m clock);
  }
