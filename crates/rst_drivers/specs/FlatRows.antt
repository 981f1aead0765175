-- The rows of refusals over a flat design, each the list of its faults in the order of the signals.
use Rattle.std.specs.Prelude.{ℕ, nat_eq, nat_lt, Bool, true, false, not, ◌&&◌, ◌||◌, cond, List, [], ◌∷◌, ◌++◌, Option, Some, None, slice_get}
use Rattle.std.specs.List.{flat_map, list_any, sum_by, enumerate_from}
use Rattle.rst_tree.specs.Trees.{Text}
use Rattle.rst_net.specs.declared.signal.Role.{Role}
use Rattle.rst_net.specs.declared.signal.Role.TheVariants as role
use Rattle.rst_net.specs.Units.{PlainSignal, PlainFlat}
use Rattle.rst_names.specs.declared.faults.ElabCode.TheVariants as code
use Rattle.rst_names.specs.Faults.{Fault, fault_if}
use Rattle.rst_drivers.specs.declared.limits.Limited.{Limited}
use Rattle.rst_drivers.specs.declared.limits.Limited.TheVariants as limited
use Rattle.rst_drivers.specs.Drives.{any_below, drivers_of_bit, has_many_drivers, is_read}

-- ---- ManyDrivers: two drivers for a bit, or two blocks for a signal. A bit counts as often as it stands in a target.

abbrev pub many_drivers : PlainFlat → ℕ × PlainSignal → List Fault
many_drivers flat numbered =
    fault_if (has_many_drivers flat.units flat.clocked numbered.0 numbered.1.extent.width)
    code.ManyDrivers numbered.1.name 0

-- ---- Undriven: a signal that is read or is an output of the top has a bit without a driver.

-- what comes from outside, and registers, need no driver
abbrev pub is_driven_role : Role → Bool
is_driven_role role.Clock = true
is_driven_role role.Input = true
is_driven_role role.Register = true
is_driven_role _ = false

abbrev pub has_open_bit : PlainFlat → ℕ → ℕ → Bool
has_open_bit flat signal width = any_below width (λ bit. nat_eq (drivers_of_bit flat.units flat.clocked signal bit) 0)

abbrev pub is_needed : PlainFlat → ℕ → Bool
is_needed flat signal = is_read flat.units flat.clocked signal || list_any (λ o. nat_eq o signal) flat.outputs

abbrev pub undriven : PlainFlat → ℕ × PlainSignal → List Fault
undriven flat numbered =
    fault_if (not (is_driven_role numbered.1.role)
    && (is_needed flat numbered.0 && has_open_bit flat numbered.0 numbered.1.extent.width))
    code.Undriven numbered.1.name 0

-- ---- Limit: too many bits of registers, then of inputs, then of outputs

abbrev pub registers_text : Text
registers_text = 82 ∷ 101 ∷ 103 ∷ 105 ∷ 115 ∷ 116 ∷ 101 ∷ 114 ∷ 115 ∷ []

abbrev pub inputs_text : Text
inputs_text = 73 ∷ 110 ∷ 112 ∷ 117 ∷ 116 ∷ 115 ∷ []

abbrev pub outputs_text : Text
outputs_text = 79 ∷ 117 ∷ 116 ∷ 112 ∷ 117 ∷ 116 ∷ 115 ∷ []

-- the signals whose bits a limit counts
abbrev pub counts : Limited → Role → Bool
counts limited.Registers role.Register = true
counts limited.Inputs role.Input = true
counts _ _ = false

abbrev pub bits_where : (Role → Bool) → List PlainSignal → ℕ
bits_where test signals = sum_by (λ s. cond (test s.role) s.extent.width 0) signals

-- the bits of the outputs
abbrev pub width_or : Option PlainSignal → ℕ
width_or None = 0
width_or (Some s) = s.extent.width

abbrev pub output_bits : PlainFlat → ℕ
output_bits flat = sum_by (λ o. width_or (slice_get flat.signals o)) flat.outputs

abbrev pub bit_limits : PlainFlat → List Fault
bit_limits flat =
    fault_if (nat_lt 512 (bits_where (counts limited.Registers) flat.signals)) code.Limit registers_text 0
    ++ (fault_if (nat_lt 256 (bits_where (counts limited.Inputs) flat.signals)) code.Limit inputs_text 0
    ++ fault_if (nat_lt 256 (output_bits flat)) code.Limit outputs_text 0)

-- Row by row over the signals in flat order.
abbrev pub flat_faults : PlainFlat → List Fault
flat_faults flat =
    flat_map (many_drivers flat) (enumerate_from 0 flat.signals)
    ++ (flat_map (undriven flat) (enumerate_from 0 flat.signals) ++ bit_limits flat)
