-- How many drivers a bit has where no row on drivers has a fault.
use Rattle.std.proofs.Common.{◌≡◌, ℕ, zero, suc, ◌+◌, ◌<◌, ◌≤◌, nat_lt, Bool, true, false, cond, List, [], ◌∷◌, ◌++◌, Option, Some, None, refl, ap, ◌∙◌, inl, inr, subst, arith}
use Rattle.std.specs.Prelude.{count_by}
use Rattle.std.specs.List.{Contains, list_any, flat_map, enumerate_from, slice_get}
use Rattle.std.proofs.lemmas.Bool.{or_cases, or_parts, cases_order, ltb-false, or_left, or_right, false_from_ne_true}
use Rattle.std.proofs.lemmas.List.Sums.{sum_by-append, sum_by-cons}
use Rattle.std.proofs.lemmas.Option.{same_Some}
use Rattle.rst_net.specs.declared.signal.Slice.{Slice}
use Rattle.rst_net.specs.Units.{PlainSignal, PlainDriver, Assign, Process, PlainFlat}
use Rattle.rst_names.specs.declared.faults.ElabCode.TheVariants as code
use Rattle.rst_names.specs.Faults.{first}
use Rattle.rst_drivers.specs.Drives.{has_bit, sets_bit, assigned, blocks_of, all_assigned, all_blocks, any_below, drivers_of_bit, blocks_of_signal, has_many_drivers}
use Rattle.rst_drivers.specs.FlatRows.{many_drivers, undriven, bit_limits, flat_faults}
use Rattle.rst_cycle.specs.Signals.{width_in, width_of}
use Rattle.rst_cycle.specs.Drivers.{slice_has, target_has, drives}
use Rattle.rst_settled.specs.Designs.{UnitSound, AreApart, SetsOnce, HaveOneDriver}
use Rattle.rst_settled.proofs.Members.{at_of, contains_at}
use Rattle.rst_flow.proofs.Members.{In}
use Rattle.rst_accepted.proofs.Rows.{left_none}
use Rattle.rst_accepted_drivers.proofs.Lists.{none_at, no_fault, numbered_in}
use Rattle.rst_accepted_drivers.proofs.Bits.{slice_bit, target_bit, statement_bit, unit_inside, target_inside}

-- targets lie inside their signals
abbrev pub TargetsInside : PlainFlat → Type 0
TargetsInside flat = (unit : PlainDriver) → Contains flat.units unit → UnitSound (width_of flat.signals) unit

-- ---- counts

count-append : {X : Type 0} (p : X → Bool) (xs ys : List X) → count_by p (xs ++ ys) ≡ count_by p xs + count_by p ys
count-append p xs ys = sum_by-append (λ x. cond (p x) 1 0) xs ys

count-cons : {X : Type 0} (p : X → Bool) (x : X) (xs : List X) → count_by p (x ∷ xs) ≡ cond (p x) 1 0 + count_by p xs
count-cons p x xs = sum_by-cons (λ y. cond (p y) 1 0) x xs

one_here : (b : Bool) → b ≡ true → 0 < cond b 1 0
one_here true e = omega arith
one_here false e = absurd cc

pub some_counted : {X : Type 0} (p : X → Bool) (xs : List X) → list_any p xs ≡ true → 0 < count_by p xs
some_counted p [] h = absurd cc
some_counted p (x ∷ xs) h = elim (or_cases (p x) (list_any p xs) h) [
  | inl a ↦ let here = one_here (p x) a in omega (arith, here, count-cons p x xs)
  | inr b ↦ let later = some_counted p xs b in omega (arith, later, count-cons p x xs)
]

-- ---- the row

none_below : (n : ℕ) (test : ℕ → Bool) → any_below n test ≡ false → (k : ℕ) → k < n → test k ≡ false
unfolding any_below
none_below zero test h k below = absurd (omega arith)
none_below (suc n) test h k below = elim (cases_order k n) [
  | inl e ↦ ap test e ∙ (or_parts (any_below n test) (test n) h).1
  | inr (inl l) ↦ none_below n test (or_parts (any_below n test) (test n) h).0 k l
  | inr (inr l) ↦ absurd (omega arith)
]

module _ (flat : PlainFlat) (none : first (flat_faults flat) ≡ None) where
  abbrev bits : ℕ → ℕ → ℕ
  bits i place = drivers_of_bit flat.units flat.clocked i place

  few : (i : ℕ) (s : PlainSignal) → slice_get flat.signals i ≡ Some s → has_many_drivers flat.units flat.clocked i s.extent.width ≡ false
  few i s at =
      no_fault (has_many_drivers flat.units flat.clocked i s.extent.width) code.ManyDrivers s.name 0
      (none_at (many_drivers flat) (enumerate_from 0 flat.signals) (i, s)
      (left_none (flat_map (many_drivers flat) (enumerate_from 0 flat.signals)) (flat_map (undriven flat) (enumerate_from 0 flat.signals) ++ bit_limits flat) none)
      (subst (λ n. In (n, s) (enumerate_from 0 flat.signals)) (from_zero i) (numbered_in 0 flat.signals i s at)))
    where
      from_zero : (n : ℕ) → 0 + n ≡ n
      from_zero n = omega arith

  -- a bit of a signal has at most one driver
  pub one_bit : (i place : ℕ) → place < width_of flat.signals i → bits i place ≤ 1
  one_bit i place below = by (slice_get flat.signals i) refl
    where
      by : (o : Option PlainSignal) → slice_get flat.signals i ≡ o → bits i place ≤ 1
      by None e = absurd (let w : width_of flat.signals i ≡ 0 = ap width_in e in omega (arith, w, below))
      by (Some s) e =
          let w : width_of flat.signals i ≡ s.extent.width = ap width_in e in
          ltb-false 1 (bits i place) (none_below s.extent.width (λ b. nat_lt 1 (bits i b))
          (or_parts (any_below s.extent.width (λ b. nat_lt 1 (bits i b))) (nat_lt 1 (blocks_of_signal flat.units flat.clocked i)) (few i s e)).0 place (omega (arith, w, below)))

  -- at most one block sets a signal
  pub one_block : (i : ℕ) (s : PlainSignal) → slice_get flat.signals i ≡ Some s → blocks_of_signal flat.units flat.clocked i ≤ 1
  one_block i s at =
      ltb-false 1 (blocks_of_signal flat.units flat.clocked i)
      (or_parts (any_below s.extent.width (λ b. nat_lt 1 (bits i b))) (nat_lt 1 (blocks_of_signal flat.units flat.clocked i)) (few i s at)).1

-- ---- drivers of one bit among units

module _ (i place : ℕ) where
  abbrev assigns : List PlainDriver → ℕ
  assigns us = count_by (has_bit i place) (all_assigned us)

  abbrev blocks : List PlainDriver → ℕ
  blocks us = count_by (sets_bit i place) (all_blocks us)

  one-assigns : (u : PlainDriver) (us : List PlainDriver) → assigns (u ∷ us) ≡ count_by (has_bit i place) (assigned u) + assigns us
  one-assigns u us = count-append (has_bit i place) (assigned u) (all_assigned us)

  one-blocks : (u : PlainDriver) (us : List PlainDriver) → blocks (u ∷ us) ≡ count_by (sets_bit i place) (blocks_of u) + blocks us
  one-blocks u us = count-append (sets_bit i place) (blocks_of u) (all_blocks us)

  one_counted : (u : PlainDriver) → drives u i place ≡ true → 0 < count_by (has_bit i place) (assigned u) + count_by (sets_bit i place) (blocks_of u)
  one_counted (Assign set) h = let some = some_counted (has_bit i place) set.target (target_bit i place set.target h) in omega (arith, some)
  one_counted (Process process) h =
      let some = some_counted (sets_bit i place) (process ∷ []) (or_left (sets_bit i place process) false (statement_bit i place process.body h)) in
      omega (arith, some)

  unit_counted : (us : List PlainDriver) (a : ℕ) (u : PlainDriver) → slice_get us a ≡ Some u → drives u i place ≡ true → 0 < assigns us + blocks us
  unit_counted [] a u at h = absurd cc
  unit_counted (v ∷ us) zero u at h =
      let some = one_counted v (ap (λ w. drives w i place) (same_Some v u at) ∙ h) in
      omega (arith, some, one-assigns v us, one-blocks v us)
  unit_counted (v ∷ us) (suc a) u at h =
      let some = unit_counted us a u at h in
      omega (arith, some, one-assigns v us, one-blocks v us)

  two_counted : (us : List PlainDriver) (a b : ℕ) (u v : PlainDriver) → slice_get us a ≡ Some u → slice_get us b ≡ Some v → drives u i place ≡ true → drives v i place ≡ true
      → a < b → 1 < assigns us + blocks us
  two_counted [] a b u v at_a at_b h k less = absurd cc
  two_counted (w ∷ us) a zero u v at_a at_b h k less = absurd (omega arith)
  two_counted (w ∷ us) zero (suc b) u v at_a at_b h k less =
      let some = one_counted w (ap (λ x. drives x i place) (same_Some w u at_a) ∙ h) in
      let more = unit_counted us b v at_b k in
      omega (arith, some, more, one-assigns w us, one-blocks w us)
  two_counted (w ∷ us) (suc a) (suc b) u v at_a at_b h k less =
      let some = two_counted us a b u v at_a at_b h k (omega arith) in
      omega (arith, some, one-assigns w us, one-blocks w us)

  -- the places of one assign are among those of all
  among_assigns : (us : List PlainDriver) (a : ℕ) (u : PlainDriver) → slice_get us a ≡ Some u → count_by (has_bit i place) (assigned u) ≤ assigns us
  among_assigns [] a u at = absurd cc
  among_assigns (v ∷ us) zero u at =
      let same : count_by (has_bit i place) (assigned v) ≡ count_by (has_bit i place) (assigned u) = ap (λ w. count_by (has_bit i place) (assigned w)) (same_Some v u at) in
      omega (arith, same, one-assigns v us)
  among_assigns (v ∷ us) (suc a) u at = let rest = among_assigns us a u at in omega (arith, rest, one-assigns v us)

-- ---- the laws

pub one : (flat : PlainFlat) → first (flat_faults flat) ≡ None → TargetsInside flat → HaveOneDriver flat.units
one flat none inside a b first second i place at_a at_b h k = elim (cases_order a b) [
  | inl e ↦ e
  | inr (inl l) ↦ absurd (two a b first second at_a at_b h k l)
  | inr (inr l) ↦ absurd (two b a second first at_b at_a k h l)
]
  where
    two : (a b : ℕ) (u v : PlainDriver) → slice_get flat.units a ≡ Some u → slice_get flat.units b ≡ Some v → drives u i place ≡ true → drives v i place ≡ true → a < b → ⊥
    two a b u v at_a at_b h k less =
        let below = unit_inside i place (width_of flat.signals) u (inside u (contains_at flat.units a u at_a)) h in
        let many = two_counted i place flat.units a b u v at_a at_b h k less in
        let few = one_bit flat none i place below in
        omega (arith, many, few)

apart : (slices : List Slice) → ((i place : ℕ) → target_has slices i place ≡ true → count_by (has_bit i place) slices ≤ 1) → AreApart slices
apart [] h = tt
apart (s ∷ slices) h = (front, apart slices behind)
  where
    front : (i place : ℕ) → slice_has i place s ≡ true → target_has slices i place ≡ false
    front i place e = false_from_ne_true (target_has slices i place) (λ t.
        let here = one_here (has_bit i place s) (slice_bit i place s e) in
        let there = some_counted (has_bit i place) slices (target_bit i place slices t) in
        let few = h i place (or_left (slice_has i place s) (target_has slices i place) e) in
        omega (arith, here, there, few, count-cons (has_bit i place) s slices))

    behind : (i place : ℕ) → target_has slices i place ≡ true → count_by (has_bit i place) slices ≤ 1
    behind i place t =
        let few = h i place (or_right (slice_has i place s) (target_has slices i place) t) in
        omega (arith, few, count-cons (has_bit i place) s slices)

pub once : (flat : PlainFlat) → first (flat_faults flat) ≡ None → TargetsInside flat → (unit : PlainDriver) → Contains flat.units unit → SetsOnce unit
once flat none inside (Process process) within = tt
once flat none inside (Assign set) within = apart set.target (λ i place h.
    let below = target_inside i place (width_of flat.signals) set.target (inside (Assign set) within) h in
    let few = one_bit flat none i place below in
    let among = among_assigns i place flat.units within.0 (Assign set) (at_of flat.units (Assign set) within) in
    omega (arith, few, among))
