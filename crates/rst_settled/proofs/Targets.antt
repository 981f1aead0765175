-- What sets of targets do to each bit.
use Rattle.std.proofs.Common.{◌≡◌, ℕ, ◌+◌, ◌-◌, ◌*◌, ◌/◌, ◌%◌, ◌^◌, ◌<◌, ◌≤◌, ◌⊎◌, Bool, true, false, not, ◌&&◌, ◌||◌, List, [], ◌∷◌, eqb, ltb, arith, refl, sym, ap, ◌∙◌, inl, inr, subst}
use Rattle.std.specs.List.{AllByRecursion}
use Rattle.std.proofs.lemmas.Bool.{or_left, or_right, and_parts, and_from, and_cases, or_parts, cases_Bool, not-true, not-false, not_from_false, ltb-true, ltb-false, le-ltb, lt-ltb, eq-eqb, eqb-true, cond-true, cond-false}
use Rattle.std.proofs.lemmas.Nat.{pow-add, mod-pow-add, same_from_place, mul-add-lt}
use Rattle.std.proofs.lemmas.Bool.Decides.{eqb_tells}
use Rattle.rst_width.specs.Values.{Valuation}
use Rattle.rst_net.specs.declared.signal.Slice.{Slice}
use Rattle.rst_cycle.specs.Bits.{has_bit, replaced}
use Rattle.rst_cycle.specs.Drivers.{slice_has, target_has}
use Rattle.rst_cycle.specs.Effects.{with_slice, with_target, target_width, target_number}
use Rattle.rst_statement_values.specs.Fits.{SliceInside}
use Rattle.rst_settled.specs.Designs.{AreApart}
use Rattle.rst_settled.proofs.Bits.{replaced_inside, replaced_outside, replaced_below, part_bit, part_below, same_part, same_number, bit_cut}

-- a bit of a signal
abbrev pub bit : Valuation → ℕ → ℕ → Bool
bit v i place = has_bit (v i) place

-- what a slice has
pub record IsOf (slice : Slice) (i place : ℕ) : Type 0 where
  pub same : i ≡ slice.signal
  pub from : slice.low ≤ place
  pub below : place < slice.low + slice.width

pub slice_is : (slice : Slice) (i place : ℕ) → slice_has i place slice ≡ true → IsOf slice i place
slice_is slice i place h =
    let one = and_parts (eqb i slice.signal) (not (ltb place slice.low) && ltb place (slice.low + slice.width)) h in
    let two = and_parts (not (ltb place slice.low)) (ltb place (slice.low + slice.width)) one.1 in
    record {
      same = eqb-true i slice.signal one.0;
      from = ltb-false place slice.low (not-true (ltb place slice.low) two.0);
      below = ltb-true place (slice.low + slice.width) two.1;
    }

pub slice_from : (slice : Slice) (i place : ℕ) → i ≡ slice.signal → slice.low ≤ place → place < slice.low + slice.width → slice_has i place slice ≡ true
slice_from slice i place same h k =
    and_from (eqb i slice.signal) (not (ltb place slice.low) && ltb place (slice.low + slice.width)) (eq-eqb i slice.signal same)
    (and_from (not (ltb place slice.low)) (ltb place (slice.low + slice.width)) (not_from_false (ltb place slice.low) (le-ltb place slice.low h))
    (lt-ltb place (slice.low + slice.width) k))

-- and what it has not
slice_is_not : (slice : Slice) (i place : ℕ) → slice_has i place slice ≡ false → i ≡ slice.signal → (place < slice.low) ⊎ (slice.low + slice.width ≤ place)
slice_is_not slice i place h same =
    elim (and_cases (eqb i slice.signal) (not (ltb place slice.low) && ltb place (slice.low + slice.width)) h) [
      | inl e ↦ absurd (let t = eq-eqb i slice.signal same in cc)
      | inr e ↦ elim (and_cases (not (ltb place slice.low)) (ltb place (slice.low + slice.width)) e) [
        | inl l ↦ inl (ltb-true place slice.low (not-false (ltb place slice.low) l))
        | inr l ↦ inr (ltb-false place (slice.low + slice.width) l)
      ]
    ]

-- ---- one slice

sets_here : (slice : Slice) (n : ℕ) (v : Valuation) (i : ℕ) → i ≡ slice.signal → with_slice slice n v i ≡ replaced slice.low slice.width (v i) n
sets_here slice n v i same = cond-true (eqb i slice.signal) (replaced slice.low slice.width (v i) n) (v i) (eq-eqb i slice.signal same)

pub slice_sets : (slice : Slice) (n : ℕ) (v : Valuation) (i place : ℕ) → slice_has i place slice ≡ true
    → bit (with_slice slice n v) i place ≡ has_bit n (place - slice.low)
slice_sets slice n v i place h =
    let at = slice_is slice i place h in
    ap (λ m. has_bit m place) (sets_here slice n v i at.same) ∙ replaced_inside slice.low slice.width (v i) n place at.from at.below

pub slice_leaves : (slice : Slice) (n : ℕ) (v : Valuation) (i place : ℕ) → slice_has i place slice ≡ false → bit (with_slice slice n v) i place ≡ bit v i place
slice_leaves slice n v i place h =
    elim (eqb_tells i slice.signal) [
      | inl t ↦ ap (λ m. has_bit m place) (sets_here slice n v i t.1) ∙ replaced_outside slice.low slice.width (v i) n place (slice_is_not slice i place h t.1)
      | inr t ↦ ap (λ m. has_bit m place) (cond-false (eqb i slice.signal) (replaced slice.low slice.width (v i) n) (v i) t.0)
    ]

slice_below : (room : ℕ → ℕ) (slice : Slice) (n : ℕ) (v : Valuation) → SliceInside room slice → ((i : ℕ) → v i < 2 ^ room i) → (i : ℕ)
    → with_slice slice n v i < 2 ^ room i
slice_below room slice n v inside below i =
    elim (eqb_tells i slice.signal) [
      | inl t ↦
          let fits : slice.low + slice.width ≤ room i = subst (λ k. slice.low + slice.width ≤ room k) (sym t.1) inside.inside in
          subst (λ m. m < 2 ^ room i) (sym (sets_here slice n v i t.1)) (replaced_below (room i) slice.low slice.width (v i) n (below i) fits)
      | inr t ↦ subst (λ m. m < 2 ^ room i) (sym (cond-false (eqb i slice.signal) (replaced slice.low slice.width (v i) n) (v i) t.0)) (below i)
    ]

-- ---- a target

pub target_leaves : (slices : List Slice) (n : ℕ) (v : Valuation) (i place : ℕ) → target_has slices i place ≡ false
    → bit (with_target slices n v) i place ≡ bit v i place
target_leaves [] n v i place h = refl
target_leaves (slice ∷ slices) n v i place h =
    let no = or_parts (slice_has i place slice) (target_has slices i place) h in
    target_leaves slices n (with_slice slice (n / 2 ^ target_width slices) v) i place no.1
    ∙ slice_leaves slice (n / 2 ^ target_width slices) v i place no.0

-- a bit that a target has is left alike
pub target_alike : (slices : List Slice) (n : ℕ) (u v : Valuation) (i place : ℕ) → (target_has slices i place ≡ false → bit u i place ≡ bit v i place)
    → bit (with_target slices n u) i place ≡ bit (with_target slices n v) i place
target_alike [] n u v i place same = same refl
target_alike (slice ∷ slices) n u v i place same =
    let m : ℕ = n / 2 ^ target_width slices in
    target_alike slices n (with_slice slice m u) (with_slice slice m v) i place
    (λ h. elim (cases_Bool (slice_has i place slice)) [
      | inl t ↦ slice_sets slice m u i place t ∙ sym (slice_sets slice m v i place t)
      | inr t ↦ slice_leaves slice m u i place t ∙ (same (ap (λ b. b || target_has slices i place) t ∙ h) ∙ sym (slice_leaves slice m v i place t))
    ])

pub target_below : (room : ℕ → ℕ) (slices : List Slice) (n : ℕ) (v : Valuation) → AllByRecursion (SliceInside room) slices
    → ((i : ℕ) → v i < 2 ^ room i) → (i : ℕ) → with_target slices n v i < 2 ^ room i
target_below room [] n v inside below = below
target_below room (slice ∷ slices) n v inside below =
    target_below room slices n (with_slice slice (n / 2 ^ target_width slices) v) inside.1 (slice_below room slice (n / 2 ^ target_width slices) v inside.0 below)

-- ---- the number that a target spells

pub number_below : (slices : List Slice) (v : Valuation) → target_number slices v < 2 ^ target_width slices
number_below [] v = omega arith
number_below (slice ∷ slices) v =
    let part = part_below (v slice.signal) slice.low slice.width in
    let rest = number_below slices v in
    let both = mul-add-lt (v slice.signal / 2 ^ slice.low % 2 ^ slice.width) (2 ^ target_width slices) (target_number slices v) (2 ^ slice.width) part rest in
    let power = pow-add 2 slice.width (target_width slices) in
    omega (arith, both, power)

pub number_alike : (slices : List Slice) (u v : Valuation) → ((i place : ℕ) → target_has slices i place ≡ true → bit u i place ≡ bit v i place)
    → target_number slices u ≡ target_number slices v
number_alike [] u v same = refl
number_alike (slice ∷ slices) u v same =
    let part : u slice.signal / 2 ^ slice.low % 2 ^ slice.width ≡ v slice.signal / 2 ^ slice.low % 2 ^ slice.width =
    same_part slice.low slice.width (u slice.signal) (v slice.signal)
    (λ p h k. same slice.signal p (or_left (slice_has slice.signal p slice) (target_has slices slice.signal p) (slice_from slice slice.signal p refl h k))) in
    let rest = number_alike slices u v (λ i place h. same i place (or_right (slice_has i place slice) (target_has slices i place) h)) in
    λ j. part j * 2 ^ target_width slices + rest j

-- equal numbers have equal bits
pub bits_alike : (slices : List Slice) (u v : Valuation) → target_number slices u ≡ target_number slices v → (i place : ℕ)
    → target_has slices i place ≡ true → bit u i place ≡ bit v i place
bits_alike [] u v same i place h = absurd cc
bits_alike (slice ∷ slices) u v same i place h =
    let both = same_from_place (u slice.signal / 2 ^ slice.low % 2 ^ slice.width) (target_number slices u)
    (v slice.signal / 2 ^ slice.low % 2 ^ slice.width) (target_number slices v)
    (2 ^ target_width slices) (number_below slices u) (number_below slices v) same in
    elim (cases_Bool (slice_has i place slice)) [
      | inl t ↦
          let at = slice_is slice i place t in
          let from = at.from in
          let back : slice.low + (place - slice.low) ≡ place = omega (arith, from) in
          let inside : place - slice.low < slice.width = let below = at.below in omega (arith, from, below) in
          let here : has_bit (u slice.signal) place ≡ has_bit (v slice.signal) place =
          ap (has_bit (u slice.signal)) (sym back)
          ∙ (sym (part_bit (u slice.signal) slice.low slice.width (place - slice.low) inside)
          ∙ (ap (λ n. has_bit n (place - slice.low)) both.0
          ∙ (part_bit (v slice.signal) slice.low slice.width (place - slice.low) inside ∙ ap (has_bit (v slice.signal)) back))) in
          subst (λ k. bit u k place ≡ bit v k place) (sym at.same) here
      | inr t ↦ bits_alike slices u v both.1 i place (sym (ap (λ b. b || target_has slices i place) t) ∙ h)
    ]

-- a target that is set spells the number
pub number_set : (slices : List Slice) (n : ℕ) (v : Valuation) → AreApart slices → target_number slices (with_target slices n v) ≡ n % 2 ^ target_width slices
number_set [] n v apart = omega arith
number_set (slice ∷ slices) n v apart =
    let w : ℕ = target_width slices in
    let middle : Valuation = with_slice slice (n / 2 ^ w) v in
    let after : Valuation = with_target slices n middle in
    let rest : target_number slices after ≡ n % 2 ^ w = number_set slices n middle apart.1 in
    let upper : n / 2 ^ w % 2 ^ slice.width < 2 ^ slice.width = part_below n w slice.width in
    let part : after slice.signal / 2 ^ slice.low % 2 ^ slice.width ≡ n / 2 ^ w % 2 ^ slice.width =
    same_number slice.width (after slice.signal / 2 ^ slice.low % 2 ^ slice.width) (n / 2 ^ w % 2 ^ slice.width)
    (part_below (after slice.signal) slice.low slice.width) upper
    (λ p h.
    let has : slice_has slice.signal (slice.low + p) slice ≡ true = slice_from slice slice.signal (slice.low + p) refl (omega arith) (omega arith) in
    let back : slice.low + p - slice.low ≡ p = omega arith in
    part_bit (after slice.signal) slice.low slice.width p h
    ∙ (target_leaves slices n middle slice.signal (slice.low + p) (apart.0 slice.signal (slice.low + p) has)
    ∙ (slice_sets slice (n / 2 ^ w) v slice.signal (slice.low + p) has
    ∙ (ap (has_bit (n / 2 ^ w)) back ∙ sym (bit_cut (n / 2 ^ w) slice.width p h))))) in
    (λ j. part j * 2 ^ w + rest j) ∙ sym (mod-pow-add n slice.width w)
