-- The units and clocked blocks of an accepted design fit.
use Rattle.std.proofs.Common.{◌≡◌, ℕ, ◌≤◌, true, List, [], ◌∷◌, ◌++◌, None, sym, subst}
use Rattle.std.specs.List.{AllByRecursion, Contains}
use Rattle.std.proofs.lemmas.List.Elements.{All-from_recursion, All-contains}
use Rattle.rst_net.specs.Units.{PlainDriver, PlainProcess, PlainFlat}
use Rattle.rst_cycle.specs.Signals.{width_of}
use Rattle.rst_blocks.specs.Sets.{first_set}
use Rattle.rst_blocks.specs.Blocks.{wrong_in_unit, wrong_in_units, wrong_in_clocked, wrong_set}
use Rattle.rst_design_terms.specs.Lowerable.{UnitsFit, ClockedFit}
use Rattle.rst_settled.specs.Designs.{UnitSound}
use Rattle.rst_settled.proofs.SameEffects.{none_of}
use Rattle.rst_agreement.specs.Fits.{DesignFits}
use Rattle.rst_names.specs.Faults.{first}
use Rattle.rst_instances.specs.Places.{Located, located}
use Rattle.rst_items.specs.Seen.{seen, placed}
use Rattle.rst_items.specs.Items.{of_instance, unit_row, clocked_row, units, clocked}
use Rattle.rst_items.specs.ItemRows.{fault_row, target_row, width_row, edge_row, rows_over, item_row_faults}
use Rattle.rst_elab.specs.Elaborated.{flat_from}
use Rattle.rst_accepted.specs.Elaborated.{IsElaborated}
use Rattle.rst_accepted.proofs.Rows.{left_none, right_none, places_of, first_of, rows_pass}
use Rattle.rst_accepted_units.proofs.Lists.{each_weaker, each_both, each_flat, none_in_each}
use Rattle.rst_accepted_units.proofs.Scopes.{narrow}
use Rattle.rst_accepted_units.proofs.Seen.{IsRight, room_of, each_right, placed_right}
use Rattle.rst_accepted_units.proofs.Sets.{UnitFits}
use Rattle.rst_accepted_units.proofs.Items.{BlockFits, row_fits, clocked_row_fits}

-- ---- all instances

module _ (room : ℕ → ℕ) (ls : List Located) (right : AllByRecursion (λ (l : Located). IsRight room (seen l)) ls) where
  -- no row finds a fault in the items of an instance
  record Passes (l : Located) : Type 0 where
    pub typed : first (of_instance fault_row ls l) ≡ None
    pub targets : first (of_instance target_row ls l) ≡ None
    pub widths : first (of_instance width_row ls l) ≡ None

  each_passes : first (item_row_faults ls) ≡ None → AllByRecursion (λ (l : Located). IsRight room (seen l) × Passes l) ls
  each_passes none =
      let first_row = rows_over fault_row ls in
      let second_row = rows_over target_row ls in
      let third_row = rows_over width_row ls in
      let fourth_row = rows_over edge_row ls in
      let rest = right_none first_row (second_row ++ (third_row ++ fourth_row)) none in
      let typed = none_in_each (of_instance fault_row ls) ls (left_none first_row (second_row ++ (third_row ++ fourth_row)) none) in
      let targets = none_in_each (of_instance target_row ls) ls (left_none second_row (third_row ++ fourth_row) rest) in
      let widths = none_in_each (of_instance width_row ls) ls (left_none third_row fourth_row (right_none second_row (third_row ++ fourth_row) rest)) in
      each_both (λ (l : Located). IsRight room (seen l)) Passes ls right
      (each_weaker (λ (l : Located). (first (of_instance fault_row ls l) ≡ None) × ((first (of_instance target_row ls l) ≡ None) × (first (of_instance width_row ls l) ≡ None))) Passes
      (λ l h. record { typed = h.0; targets = h.1.0; widths = h.1.1 }) ls
      (each_both (λ (l : Located). first (of_instance fault_row ls l) ≡ None) (λ (l : Located). (first (of_instance target_row ls l) ≡ None) × (first (of_instance width_row ls l) ≡ None)) ls typed
      (each_both (λ (l : Located). first (of_instance target_row ls l) ≡ None) (λ (l : Located). first (of_instance width_row ls l) ≡ None) ls targets widths)))

  units_fit : first (item_row_faults ls) ≡ None → AllByRecursion (UnitFits room) (units ls)
  units_fit none =
      each_flat (λ (l : Located). IsRight room (seen l) × Passes l) (UnitFits room) (of_instance unit_row ls)
      (λ l h. row_fits room (placed ls l) (seen l) h.0 (placed_right room ls l right) l.place.of.items h.1.typed h.1.targets h.1.widths) ls (each_passes none)

  clocked_fit : first (item_row_faults ls) ≡ None → AllByRecursion (BlockFits room) (clocked ls)
  clocked_fit none =
      each_flat (λ (l : Located). IsRight room (seen l) × Passes l) (BlockFits room) (of_instance clocked_row ls)
      (λ l h. clocked_row_fits room (placed ls l) (seen l) h.0 (placed_right room ls l right) l.place.of.items h.1.typed h.1.targets h.1.widths) ls (each_passes none)

-- ---- where no set is of the wrong kind

kinds_fit : (room : ℕ → ℕ) (us : List PlainDriver) → AllByRecursion (UnitFits room) us → wrong_in_units us ≡ None → UnitsFit room us
kinds_fit room [] h none = tt
kinds_fit room (unit ∷ us) h none =
    let parts = none_of (wrong_in_unit unit) (wrong_in_units us) none in
    (h.0.fits parts.0, kinds_fit room us h.1 parts.1)

clocked_kinds_fit : (room : ℕ → ℕ) (cs : List PlainProcess) → AllByRecursion (BlockFits room) cs → wrong_in_clocked cs ≡ None → ClockedFit room cs
clocked_kinds_fit room [] h none = tt
clocked_kinds_fit room (c ∷ cs) h none =
    let parts = none_of (first_set true c.body) (wrong_in_clocked cs) none in
    (h.0.fits parts.0, clocked_kinds_fit room cs h.1 parts.1)

-- ---- accepted designs

record Fits (flat : PlainFlat) : Type 0 where
  pub units : AllByRecursion (UnitFits (width_of flat.signals)) flat.units
  pub clocked : AllByRecursion (BlockFits (width_of flat.signals)) flat.clocked

fits_from : (flat : PlainFlat) (e : IsElaborated flat) → Fits (flat_from (first_of e) (places_of e))
fits_from flat e =
    let rows = rows_pass flat e in
    let ls = located (places_of e) in
    let right = each_right e.modules e.top e.is.of e.clock e.is.is_top rows.names in
    let room = room_of e.modules ls in
    record { units = units_fit room ls right rows.items; clocked = clocked_fit room ls right rows.items }

design_fits : (flat : PlainFlat) → IsElaborated flat → Fits flat
design_fits flat e = subst Fits (sym e.is.flat) (fits_from flat e)

pub no_wide : (flat : PlainFlat) → IsElaborated flat → (i : ℕ) → width_of flat.signals i ≤ 64
no_wide flat e i =
    let ls = located (places_of e) in
    subst (λ (f : PlainFlat). width_of f.signals i ≤ 64) (sym e.is.flat) (narrow (units ls) (clocked ls) ls i)

pub all_sound : (flat : PlainFlat) → IsElaborated flat → (unit : PlainDriver) → Contains flat.units unit → UnitSound (width_of flat.signals) unit
all_sound flat e unit h =
    (All-contains (UnitFits (width_of flat.signals)) flat.units unit (All-from_recursion (UnitFits (width_of flat.signals)) flat.units (design_fits flat e).units) h).sound

pub all_fit : (flat : PlainFlat) → IsElaborated flat → wrong_set flat.units flat.clocked ≡ None → DesignFits flat
all_fit flat e none =
    let parts = none_of (wrong_in_units flat.units) (wrong_in_clocked flat.clocked) none in
    let fits = design_fits flat e in
    record { units = kinds_fit (width_of flat.signals) flat.units fits.units parts.0; clocked = clocked_kinds_fit (width_of flat.signals) flat.clocked fits.clocked parts.1 }
