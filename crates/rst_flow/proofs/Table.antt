-- What the table of drives has.
use Rattle.std.proofs.Common.{◌≡◌, ℕ, zero, suc, ◌+◌, nat_eq, inl, inr, List, [], ◌∷◌, refl, sym, ◌∙◌, ap, subst, arith, Option, Some, None}
use Rattle.std.specs.List.{slice_get}
use Rattle.std.proofs.lemmas.Bool.{eqb-true, eq-eqb}
use Rattle.rst_net.specs.declared.signal.Slice.{Slice}
use Rattle.rst_net.specs.Units.{PlainDriver}
use Rattle.rst_blocks.specs.Sets.{unit_targets}
use Rattle.rst_flow.specs.declared.drives.Drive.{Drive}
use Rattle.rst_flow.specs.Tables.{picked, drives_at}
use Rattle.rst_flow.proofs.Members.{In, in_left, in_right, in_either, in_cond, cond_in, cond_here}

abbrev pub drive_of : ℕ → Slice → Drive
drive_of unit slice = record { unit = unit; low = slice.low; width = slice.width }

-- the slice that a drive comes from
pub record FromSlice (i unit : ℕ) (slices : List Slice) (drive : Drive) : Type 0 where
  pub slice : Slice
  pub member : In slice slices
  pub signal : i ≡ slice.signal
  pub same : drive_of unit slice ≡ drive

pub picked_from : (i unit : ℕ) (slices : List Slice) (drive : Drive) → In drive (picked i unit slices) → FromSlice i unit slices drive
picked_from i unit [] drive h = absurd h
picked_from i unit (slice ∷ slices) drive h = elim (in_cond (nat_eq i slice.signal) (drive_of unit slice) drive (picked i unit slices) h) [
  | inl here ↦ record { slice = slice; member = inl refl; signal = eqb-true i slice.signal here.0; same = here.1 }
  | inr later ↦ let r = picked_from i unit slices drive later in record { slice = r.slice; member = inr r.member; signal = r.signal; same = r.same }
]

pub from_picked : (i unit : ℕ) (slices : List Slice) (slice : Slice) → In slice slices → i ≡ slice.signal → In (drive_of unit slice) (picked i unit slices)
from_picked i unit [] slice h e = absurd h
from_picked i unit (s ∷ slices) slice (inl same) e =
    subst (λ (z : Slice). In (drive_of unit z) (picked i unit (s ∷ slices))) same
    (cond_here (nat_eq i s.signal) (drive_of unit s) (picked i unit slices) (eq-eqb i s.signal (e ∙ sym (ap (λ (z : Slice). z.signal) same))))
from_picked i unit (s ∷ slices) slice (inr h) e =
    cond_in (nat_eq i s.signal) (drive_of unit s) (drive_of unit slice) (picked i unit slices) (from_picked i unit slices slice h e)

-- the unit that a drive comes from
pub record FromUnit (i k : ℕ) (units : List PlainDriver) (drive : Drive) : Type 0 where
  pub place : ℕ
  pub driver : PlainDriver
  pub at : slice_get units place ≡ Some driver
  pub number : drive.unit ≡ k + place
  pub slice : Slice
  pub member : In slice (unit_targets driver)
  pub signal : i ≡ slice.signal
  pub same : drive_of drive.unit slice ≡ drive

pub drives_from : (i k : ℕ) (units : List PlainDriver) (drive : Drive) → In drive (drives_at i k units) → FromUnit i k units drive
drives_from i k [] drive h = absurd h
drives_from i k (driver ∷ units) drive h = elim (in_either drive (picked i k (unit_targets driver)) (drives_at i (suc k) units) h) [
  | inl here ↦
      let r = picked_from i k (unit_targets driver) drive here in
      let number : k ≡ drive.unit = ap (λ (d : Drive). d.unit) r.same in
      record {
        place = 0;
        driver = driver;
        at = refl;
        number = omega arith;
        slice = r.slice;
        member = r.member;
        signal = r.signal;
        same = subst (λ n. drive_of n r.slice ≡ drive) number r.same;
      }
  | inr later ↦
      let r = drives_from i (suc k) units drive later in
      record { place = suc r.place; driver = r.driver; at = r.at; number = omega (arith, r.number); slice = r.slice; member = r.member; signal = r.signal; same = r.same }
]

pub from_drives : (i k n : ℕ) (units : List PlainDriver) (driver : PlainDriver) (slice : Slice) → slice_get units n ≡ Some driver → In slice (unit_targets driver) → i ≡ slice.signal
    → In (drive_of (k + n) slice) (drives_at i k units)
from_drives i k n [] driver slice at h e = absurd (none_some driver at)
  where
    none_some : {X : Type 0} (x : X) → ◌≡◌ {A = Option X} None (Some x) → ⊥
    none_some x e = cc
from_drives i k zero (u ∷ units) driver slice at h e =
    let same : u ≡ driver = same_some u driver at in
    let number : k ≡ k + 0 = omega arith in
    in_left (drive_of (k + 0) slice) (picked i k (unit_targets u)) (drives_at i (suc k) units)
    (subst (λ n. In (drive_of n slice) (picked i k (unit_targets u))) number
    (from_picked i k (unit_targets u) slice (subst (λ (d : PlainDriver). In slice (unit_targets d)) (sym same) h) e))
  where
    same_some : {X : Type 0} (x y : X) → Some x ≡ Some y → x ≡ y
    same_some x y e = cc
from_drives i k (suc n) (u ∷ units) driver slice at h e =
    let number : suc k + n ≡ k + suc n = omega arith in
    in_right (drive_of (k + suc n) slice) (picked i k (unit_targets u)) (drives_at i (suc k) units)
    (subst (λ m. In (drive_of m slice) (drives_at i (suc k) units)) number (from_drives i (suc k) n units driver slice at h e))
