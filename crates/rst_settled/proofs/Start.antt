-- The valuation in which inputs and registers have their bits, and all other signals are 0.
use Rattle.std.proofs.Common.{◌≡◌, ◌∙◌, ℕ, suc, ◌+◌, ◌^◌, ◌<◌, ◌≤◌, Bool, true, false, cond, eqb, List, [], ◌∷◌, length, take, drop, arith, refl, sym, ap, subst, inl, inr}
use Rattle.std.specs.List.{AllByRecursion, slice_get}
use Rattle.std.proofs.lemmas.Bool.{cond-true, cond-false}
use Rattle.std.proofs.lemmas.Bool.Decides.{eqb_tells}
use Rattle.std.proofs.lemmas.List.{length-take}
use Rattle.std.proofs.lemmas.Nat.{pow_pos}
use Rattle.std.proofs.Math.Pow.{pow_mono}
use Rattle.rst_width.specs.Values.{Valuation}
use Rattle.rst_net.specs.declared.signal.Role.{Role}
use Rattle.rst_net.specs.declared.signal.Role.TheVariants as role
use Rattle.rst_net.specs.Units.{PlainSignal, PlainFlat}
use Rattle.rst_cycle.specs.Bits.{has_bit, spelled}
use Rattle.rst_cycle.specs.Signals.{Whole, same_role, with_role_from, with_role, width_in, width_of, role_of, is_wired}
use Rattle.rst_cycle.specs.Resets.{reset_of, read_bit}
use Rattle.rst_cycle.specs.Cycle.{given}
use Rattle.rst_settled.proofs.Numbers.{spelled_below, made, made_below}

-- ---- what is given is in range

abbrev IsWhole : List PlainSignal → Whole → Type 0
IsWhole signals s = s.width ≡ width_of signals s.number

one_more : (signals : List PlainSignal) (b : Bool) (s : Whole) (rest : List Whole) → IsWhole signals s → AllByRecursion (IsWhole signals) rest
    → AllByRecursion (IsWhole signals) (cond b (s ∷ rest) rest)
one_more signals true s rest h k = (h, k)
one_more signals false s rest h k = k

wholes_from :
    (signals : List PlainSignal) (k : ℕ) (r : Role) (tail : List PlainSignal) → ((j : ℕ) → slice_get tail j ≡ slice_get signals (k + j))
    → AllByRecursion (IsWhole signals) (with_role_from k r tail)
wholes_from signals k r [] at = tt
wholes_from signals k r (s ∷ tail) at =
    let here : k + 0 ≡ k = omega arith in
    one_more signals (same_role s.role r) (record { number = k; width = s.extent.width }) (with_role_from (suc k) r tail)
    (ap width_in (at 0 ∙ ap (slice_get signals) here))
    (wholes_from signals (suc k) r tail (λ j. let next : k + suc j ≡ suc k + j = omega arith in at (suc j) ∙ ap (slice_get signals) next))

wholes : (signals : List PlainSignal) (r : Role) → AllByRecursion (IsWhole signals) (with_role r signals)
wholes signals r = wholes_from signals 0 r signals (λ j. let e : j ≡ 0 + j = omega arith in ap (slice_get signals) e)

taken_below : (bits : List Bool) (w : ℕ) → spelled (take w bits) < 2 ^ w
taken_below bits w =
    let one = spelled_below (take w bits) in
    let less : length (take w bits) ≤ w = omega (arith, length-take w bits) in
    let other = pow_mono less in
    omega (arith, one, other)

given_below : (signals : List PlainSignal) (some : List Whole) (bits : List Bool) (i : ℕ) → AllByRecursion (IsWhole signals) some
    → given some bits i < 2 ^ width_of signals i
given_below signals [] bits i all = pow_pos (width_of signals i)
given_below signals (s ∷ some) bits i all =
    elim (eqb_tells i s.number) [
      | inl t ↦
          let width : s.width ≡ width_of signals i = all.0 ∙ ap (width_of signals) (sym t.1) in
          subst (λ n. n < 2 ^ width_of signals i) (sym (cond-true (eqb i s.number) (spelled (take s.width bits)) (given some (drop s.width bits) i) t.0))
          (subst (λ w. spelled (take s.width bits) < 2 ^ w) width (taken_below bits s.width))
      | inr t ↦
          subst (λ n. n < 2 ^ width_of signals i) (sym (cond-false (eqb i s.number) (spelled (take s.width bits)) (given some (drop s.width bits) i) t.0))
          (given_below signals some (drop s.width bits) i all.1)
    ]

-- ---- the valuation

abbrev pub inputs_of : PlainFlat → List Bool → Valuation
inputs_of flat input i = given (with_role role.Input flat.signals) input i

abbrev pub register_bit : PlainFlat → List Bool → List Bool → ℕ → ℕ → Bool
register_bit flat state input i place =
    read_bit (reset_of flat.clocked i place) (inputs_of flat input) (has_bit (given (with_role role.Register flat.signals) state i) place)

abbrev pub start_of : PlainFlat → List Bool → List Bool → Role → ℕ → ℕ
start_of flat state input role.Input i = inputs_of flat input i
start_of flat state input role.Register i = made (width_of flat.signals i) (register_bit flat state input i)
start_of flat state input _ i = 0

abbrev pub start : PlainFlat → List Bool → List Bool → Valuation
start flat state input i = start_of flat state input (role_of flat.signals i) i

below_of : (flat : PlainFlat) (state input : List Bool) (r : Role) (i : ℕ) → start_of flat state input r i < 2 ^ width_of flat.signals i
below_of flat state input role.Input i = given_below flat.signals (with_role role.Input flat.signals) input i (wholes flat.signals role.Input)
below_of flat state input role.Register i = made_below (width_of flat.signals i) (register_bit flat state input i)
below_of flat state input role.Clock i = pow_pos (width_of flat.signals i)
below_of flat state input role.Block i = pow_pos (width_of flat.signals i)
below_of flat state input role.Wire i = pow_pos (width_of flat.signals i)
below_of flat state input role.Idle i = pow_pos (width_of flat.signals i)

pub start_below : (flat : PlainFlat) (state input : List Bool) (i : ℕ) → start flat state input i < 2 ^ width_of flat.signals i
start_below flat state input i = below_of flat state input (role_of flat.signals i) i

pub wired_start : (flat : PlainFlat) (state input : List Bool) (r : Role) (i : ℕ) → is_wired r ≡ true → start_of flat state input r i ≡ 0
wired_start flat state input role.Block i h = refl
wired_start flat state input role.Wire i h = refl
wired_start flat state input role.Idle i h = refl
wired_start flat state input role.Input i h = absurd cc
wired_start flat state input role.Register i h = absurd cc
wired_start flat state input role.Clock i h = refl
