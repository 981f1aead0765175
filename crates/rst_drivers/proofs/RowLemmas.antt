-- What the code's tables tell of the signals is what the rows ask.
use Rattle.std.proofs.Common.{◌≡◌, ◌∙◌, ℕ, zero, suc, ◌+◌, ◌<◌, ◌≤◌, Bool, false, not, ◌&&◌, ◌||◌, nat_eq, nat_lt, List, [], ◌∷◌, ◌++◌, Some, slice_get, length, map, refl, sym, ap, subst, arith}
use Rattle.std.proofs.Math.ListN.{replicate}
use Rattle.std.specs.List.{flat_map, enumerate_from}
use Rattle.std.proofs.lemmas.Option.{slice_get_within, slice_get-get_or}
use Rattle.std.proofs.lemmas.List.{length-map, get_or-replicate, length-replicate}
use Rattle.rst_net.specs.declared.signal.Signal.{Signal}
use Rattle.rst_net.specs.Units.{PlainSignal, PlainDriver, PlainProcess, PlainFlat, plain_signal}
use Rattle.rst_names.specs.Faults.{Fault, fault_if}
use Rattle.rst_names.specs.declared.faults.ElabCode.TheVariants as code
use Rattle.rst_drivers.specs.declared.drives.Drive.{Drive}
use Rattle.rst_drivers.specs.Drives.{is_set, any_below, drivers_of_bit, has_many_drivers}
use Rattle.rst_drivers.specs.FlatRows.{many_drivers, undriven, bit_limits, flat_faults, is_driven_role, is_needed}
use Rattle.rst_drivers.specs.CodeRows.{drive_at, has_many, has_open, many_in, undriven_in, faults_in}
use Rattle.rst_drivers.specs.Marks.{Marks, stands}
use Rattle.rst_drivers.specs.Tables.{IsDrive, AreDrives}
use Rattle.rst_drivers.proofs.Tests.{not_some}
use Rattle.rst_drivers.proofs.BitLemmas.{any_below-same}

-- two rows that are one at each element
rows_same : {X : Type 0} (f g : ℕ × X → List Fault) (k : ℕ) (xs : List X) → ((i : ℕ) (x : X) → slice_get xs i ≡ Some x → f (k + i, x) ≡ g (k + i, x))
    → flat_map f (enumerate_from k xs) ≡ flat_map g (enumerate_from k xs)
rows_same f g k [] same = refl
rows_same {X} f g k (x ∷ xs) same =
    ap (λ l. l ++ flat_map f (enumerate_from (k + 1) xs)) (here k x (same zero x refl))
    ∙ ap (λ l. g (k, x) ++ l) (rows_same f g (k + 1) xs (λ i y is. behind i y (same (suc i) y is)))
  where
    here : (k : ℕ) (x : X) → f (k + 0, x) ≡ g (k + 0, x) → f (k, x) ≡ g (k, x)
    here k x h = let e : k + 0 ≡ k = omega arith in subst (λ n. f (n, x) ≡ g (n, x)) e h

    behind : (i : ℕ) (y : X) → f (k + suc i, y) ≡ g (k + suc i, y) → f (k + 1 + i, y) ≡ g (k + 1 + i, y)
    behind i y h = let e : k + suc i ≡ k + 1 + i = omega arith in subst (λ n. f (n, y) ≡ g (n, y)) e h

-- signals have at most 64 bits
narrow : (signals : List Signal) (i : ℕ) (s : PlainSignal) → slice_get (map plain_signal signals) i ≡ Some s → s.extent.width ≤ 64
narrow [] i s is = cc
narrow (x ∷ xs) zero s is =
    let same : plain_signal x ≡ s = cc in
    subst (λ y. y.extent.width ≤ 64) same x.shape.at_most_64
narrow (x ∷ xs) (suc i) s is = narrow xs i s is

module _ (us : List PlainDriver) (cs : List PlainProcess) (i width : ℕ) (d : Drive) (h : IsDrive us cs i d) (small : width ≤ 64) where
  many_is : has_many d width ≡ has_many_drivers us cs i width
  many_is =
      ap (λ t. t || d.shared) (any_below-same width (is_set d.twice) (λ bit. nat_lt 1 (drivers_of_bit us cs i bit)) (λ bit below. h.twice bit (omega arith)))
      ∙ ap (λ t. any_below width (λ bit. nat_lt 1 (drivers_of_bit us cs i bit)) || t) h.shared

  open_is : has_open d width ≡ any_below width (λ bit. nat_eq (drivers_of_bit us cs i bit) 0)
  open_is =
      any_below-same width (λ bit. not (is_set d.bits bit)) (λ bit. nat_eq (drivers_of_bit us cs i bit) 0)
      (λ bit below. ap not (h.bits bit (omega arith)) ∙ not_some (drivers_of_bit us cs i bit))

module _ (flat : PlainFlat) (signals : List Signal) (ds : List Drive) (h : AreDrives flat.units flat.clocked (length signals) ds) where
  table_is : (i : ℕ) (s : PlainSignal) → slice_get (map plain_signal signals) i ≡ Some s → IsDrive flat.units flat.clocked i (drive_at ds i)
  table_is i s is =
      let within : i < length ds = omega (arith, slice_get_within (map plain_signal signals) i s is, length-map signals plain_signal, h.count) in
      h.each i (drive_at ds i) (slice_get-get_or ds i _ within)

  pub many-rows : flat_map (many_in ds) (enumerate_from 0 (map plain_signal signals)) ≡ flat_map (many_drivers flat) (enumerate_from 0 (map plain_signal signals))
  many-rows = rows_same (many_in ds) (many_drivers flat) 0 (map plain_signal signals) one
    where
      here : (i : ℕ) (s : PlainSignal) → slice_get (map plain_signal signals) i ≡ Some s → many_in ds (i, s) ≡ many_drivers flat (i, s)
      here i s is = ap (λ t. fault_if t code.ManyDrivers s.name 0) (many_is flat.units flat.clocked i s.extent.width (drive_at ds i) (table_is i s is) (narrow signals i s is))

      one : (i : ℕ) (s : PlainSignal) → slice_get (map plain_signal signals) i ≡ Some s → many_in ds (0 + i, s) ≡ many_drivers flat (0 + i, s)
      one i s is = let e : i ≡ 0 + i = omega arith in subst (λ n. many_in ds (n, s) ≡ many_drivers flat (n, s)) e (here i s is)

  module _ (needed : List Bool) (m : Marks (is_needed flat) (replicate (length signals) false) needed) where
    mark_is : (i : ℕ) (s : PlainSignal) → slice_get (map plain_signal signals) i ≡ Some s → stands needed i ≡ is_needed flat i
    mark_is i s is =
        let within : i < length signals = omega (arith, slice_get_within (map plain_signal signals) i s is, length-map signals plain_signal) in
        m.each i (subst (λ n. i < n) (sym (length-replicate (length signals) false)) within)
        ∙ ap (λ t. t || is_needed flat i) (get_or-replicate (length signals) i false false within)

    pub undriven-rows : flat_map (undriven_in needed ds) (enumerate_from 0 (map plain_signal signals)) ≡ flat_map (undriven flat) (enumerate_from 0 (map plain_signal signals))
    undriven-rows = rows_same (undriven_in needed ds) (undriven flat) 0 (map plain_signal signals) one
      where
        here : (i : ℕ) (s : PlainSignal) → slice_get (map plain_signal signals) i ≡ Some s → undriven_in needed ds (i, s) ≡ undriven flat (i, s)
        here i s is =
            ap (λ t. fault_if (not (is_driven_role s.role) && (t && has_open (drive_at ds i) s.extent.width)) code.Undriven s.name 0) (mark_is i s is)
            ∙ ap (λ t. fault_if (not (is_driven_role s.role) && (is_needed flat i && t)) code.Undriven s.name 0)
            (open_is flat.units flat.clocked i s.extent.width (drive_at ds i) (table_is i s is) (narrow signals i s is))

        one : (i : ℕ) (s : PlainSignal) → slice_get (map plain_signal signals) i ≡ Some s → undriven_in needed ds (0 + i, s) ≡ undriven flat (0 + i, s)
        one i s is = let e : i ≡ 0 + i = omega arith in subst (λ n. undriven_in needed ds (n, s) ≡ undriven flat (n, s)) e (here i s is)

-- all rows
pub faults-are : (flat : PlainFlat) (signals : List Signal) (needed : List Bool) (ds : List Drive) → flat.signals ≡ map plain_signal signals
    → Marks (is_needed flat) (replicate (length signals) false) needed → AreDrives flat.units flat.clocked (length signals) ds → faults_in needed ds flat ≡ flat_faults flat
faults-are flat signals needed ds same m h =
    let many : flat_map (many_in ds) (enumerate_from 0 flat.signals) ≡ flat_map (many_drivers flat) (enumerate_from 0 flat.signals) =
    subst (λ ss. flat_map (many_in ds) (enumerate_from 0 ss) ≡ flat_map (many_drivers flat) (enumerate_from 0 ss)) (sym same) (many-rows flat signals ds h) in
    let open_rows : flat_map (undriven_in needed ds) (enumerate_from 0 flat.signals) ≡ flat_map (undriven flat) (enumerate_from 0 flat.signals) =
    subst (λ ss. flat_map (undriven_in needed ds) (enumerate_from 0 ss) ≡ flat_map (undriven flat) (enumerate_from 0 ss)) (sym same) (undriven-rows flat signals ds h needed m) in
    ap (λ l. l ++ (flat_map (undriven_in needed ds) (enumerate_from 0 flat.signals) ++ bit_limits flat)) many
    ∙ ap (λ l. flat_map (many_drivers flat) (enumerate_from 0 flat.signals) ++ (l ++ bit_limits flat)) open_rows
