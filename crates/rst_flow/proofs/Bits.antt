-- Bits that slices have in common.
use Rattle.std.proofs.Common.{◌≡◌, ℕ, ◌+◌, ◌<◌, ◌≤◌, max, nat_eq, nat_lt, Bool, true, false, not, ◌&&◌, refl, arith}
use Rattle.std.proofs.lemmas.Bool.{eqb-true, ltb-true, lt-ltb}
use Rattle.std.proofs.lemmas.Bool.Decides.{nat_tests}
use Rattle.rst_net.specs.declared.signal.Slice.{Slice}
use Rattle.rst_cycle.specs.Drivers.{slice_has}
use Rattle.rst_flow.specs.declared.drives.Drive.{Drive}
use Rattle.rst_flow.specs.Tables.{overlap}

-- the places that a slice has
pub record Has (slice : Slice) (i p : ℕ) : Type 0 where
  pub signal : i ≡ slice.signal
  pub from : slice.low ≤ p
  pub below : p < slice.low + slice.width

both : (a b : Bool) → (a && b) ≡ true → (a ≡ true) × (b ≡ true)
both true b e = (refl, e)
both false b e = absurd cc

pub slice_has-has : (slice : Slice) (i p : ℕ) → slice_has i p slice ≡ true → Has slice i p
slice_has-has slice i p e =
    let whole = both (nat_eq i slice.signal) (not (nat_lt p slice.low) && nat_lt p (slice.low + slice.width)) e in
    let ends = both (not (nat_lt p slice.low)) (nat_lt p (slice.low + slice.width)) whole.1 in
    record { signal = eqb-true i slice.signal whole.0; from = not_below p slice.low ends.0; below = ltb-true p (slice.low + slice.width) ends.1 }
  where
    not_below : (p l : ℕ) → not (nat_lt p l) ≡ true → l ≤ p
    not_below p l e = grind (arith, nat_tests)

pub has-slice_has : (slice : Slice) (i p : ℕ) → Has slice i p → slice_has i p slice ≡ true
has-slice_has slice i p h = made i p slice.signal slice.low (slice.low + slice.width) h.signal h.from h.below
  where
    made : (i p s l e : ℕ) → i ≡ s → l ≤ p → p < e → (nat_eq i s && (not (nat_lt p l) && nat_lt p e)) ≡ true
    made i p s l e a b c = grind (arith, nat_tests)

-- a place that a drive and a slice have in common
pub record Common (drive : Drive) (slice : Slice) : Type 0 where
  pub place : ℕ
  pub drive_from : drive.low ≤ place
  pub drive_below : place < drive.low + drive.width
  pub slice_from : slice.low ≤ place
  pub slice_below : place < slice.low + slice.width

pub overlap-common : (drive : Drive) (slice : Slice) → overlap drive slice ≡ true → Common drive slice
overlap-common drive slice e =
    let ends = both (nat_lt (max drive.low slice.low) (drive.low + drive.width)) (nat_lt (max drive.low slice.low) (slice.low + slice.width)) e in
    let a = ltb-true (max drive.low slice.low) (drive.low + drive.width) ends.0 in
    let b = ltb-true (max drive.low slice.low) (slice.low + slice.width) ends.1 in
    record { place = max drive.low slice.low; drive_from = omega arith; drive_below = a; slice_from = omega arith; slice_below = b }

pub common-overlap : (drive : Drive) (slice : Slice) → Common drive slice → overlap drive slice ≡ true
common-overlap drive slice h =
    made (max drive.low slice.low) (drive.low + drive.width) (slice.low + slice.width) (within drive.low slice.low h.place (drive.low + drive.width) h.drive_from h.slice_from h.drive_below)
    (within drive.low slice.low h.place (slice.low + slice.width) h.drive_from h.slice_from h.slice_below)
  where
    within : (a b p e : ℕ) → a ≤ p → b ≤ p → p < e → max a b < e
    within a b p e x y z = omega arith

    made : (m e f : ℕ) → m < e → m < f → (nat_lt m e && nat_lt m f) ≡ true
    made m e f x y = rw (lt-ltb m e x) (lt-ltb m f y)
