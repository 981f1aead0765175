-- The units of a design in order, run from the bits of the state and the input, leave a settled valuation.
use Rattle.std.proofs.Common.{◌≡◌, ◌∙◌, ℕ, ◌^◌, ◌<◌, Bool, true, false, List, length, refl, sym, ap, arith}
use Rattle.std.specs.List.{list_any}
use Rattle.std.proofs.lemmas.Bool.{false_from_ne_true}
use Rattle.std.proofs.lemmas.Option.{slice_get_read}
use Rattle.std.proofs.lemmas.Nat.{pow_pos}
use Rattle.rst_width.specs.Values.{Valuation}
use Rattle.rst_net.specs.declared.signal.Role.TheVariants as role
use Rattle.rst_net.specs.Units.{PlainFlat}
use Rattle.rst_cycle.specs.Bits.{has_bit}
use Rattle.rst_cycle.specs.Signals.{width_of, role_of, with_role, is_wired}
use Rattle.rst_cycle.specs.Drivers.{drives}
use Rattle.rst_cycle.specs.Resets.{reset_of, read_bit}
use Rattle.rst_cycle.specs.Cycle.{Settled, given}
use Rattle.rst_settled.specs.Orderly.{IsOrderly}
use Rattle.rst_settled.proofs.Bits.{same_number, bit_past}
use Rattle.rst_settled.proofs.Numbers.{made_bit}
use Rattle.rst_settled.proofs.Start.{inputs_of, register_bit, start_of, start, start_below, wired_start}
use Rattle.rst_settled.proofs.Runs.{done_all, all_leave, all_below, units_hold}
use Rattle.rst_settled.proofs.SameResets.{same_read}
use Rattle.rst_settled.proofs.Members.{found, contains_at}

module _ (flat : PlainFlat) (state input : List Bool) (orderly : IsOrderly flat) where
  abbrev first : Valuation
  first = start flat state input

  abbrev pub last : Valuation
  last = done_all flat.units first

  in_range : (i : ℕ) → last i < 2 ^ width_of flat.signals i
  in_range = all_below (width_of flat.signals) orderly.design.widths flat.units
      (λ k unit at. let there = contains_at flat.units k unit at in (orderly.design.sound unit there, orderly.blocking unit there)) first
      (start_below flat state input)

  -- no unit drives a signal that isn't wired
  kept : (i : ℕ) → is_wired (role_of flat.signals i) ≡ false → last i ≡ first i
  kept i h =
      same_number (width_of flat.signals i) (last i) (first i) (in_range i) (start_below flat state input i)
      (λ p l. all_leave flat.units first i p
      (false_from_ne_true (list_any (λ unit. drives unit i p) flat.units)
      (λ d.
      let driver = found (λ unit. drives unit i p) flat.units d in
      let wired = orderly.design.wired driver.item i p (contains_at flat.units driver.place driver.item driver.at) driver.holds in
      cc)))

  inputs_kept : (i : ℕ) → role_of flat.signals i ≡ role.Input → last i ≡ inputs_of flat input i
  inputs_kept i e = kept i (ap is_wired e) ∙ ap (λ r. start_of flat state input r i) e

  registers_kept : (i place : ℕ) → role_of flat.signals i ≡ role.Register → place < width_of flat.signals i
      → has_bit (last i) place ≡ read_bit (reset_of flat.clocked i place) last (has_bit (given (with_role role.Register flat.signals) state i) place)
  registers_kept i place e l =
      ap (λ n. has_bit n place) (kept i (ap is_wired e) ∙ ap (λ r. start_of flat state input r i) e)
      ∙ (made_bit (width_of flat.signals i) (register_bit flat state input i) place l
      ∙ same_read (inputs_of flat input) last (has_bit (given (with_role role.Register flat.signals) state i) place) i place flat.clocked
      (λ process reset within is. sym (inputs_kept reset.signal (orderly.design.resets process reset within is))))

  undriven_zero : (i place : ℕ) → is_wired (role_of flat.signals i) ≡ true → list_any (λ unit. drives unit i place) flat.units ≡ false
      → has_bit (last i) place ≡ false
  undriven_zero i place wired d =
      all_leave flat.units first i place d
      ∙ (ap (λ n. has_bit n place) (wired_start flat state input (role_of flat.signals i) i wired) ∙ bit_past 0 0 place (pow_pos 0) (omega arith))

  pub settled : Settled flat state input last
  settled = record {
    in_range = in_range;
    inputs = inputs_kept;
    registers = registers_kept;
    clocks = λ i e. kept i (ap is_wired e) ∙ ap (λ r. start_of flat state input r i) e;
    undriven = undriven_zero;
    units = λ unit within. units_hold flat orderly first (start_below flat state input) within.0 unit
        (slice_get_read flat.units (length flat.units) within.0 unit refl within.1 (sym within.2));
  }
