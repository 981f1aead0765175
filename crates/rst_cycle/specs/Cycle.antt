-- The meaning of a flat design: its settled valuation, and the machine that it is.
-- States and inputs are lists of bits in bit order: signals in flat order, in each the most significant bit first.
use Rattle.std.specs.Prelude.{◌≡◌, ℕ, ◌<◌, ◌%◌, ◌^◌, nat_eq, Bool, true, false, cond, List, [], ◌∷◌, length, take, drop, sum, map}
use Rattle.std.specs.List.{Contains, list_any, flat_map}
use Rattle.rst_gate.specs.Machine.{Machine}
use Rattle.rst_width.specs.Values.{Valuation, value}
use Rattle.rst_net.specs.declared.signal.Role.TheVariants as role
use Rattle.rst_net.specs.Units.{PlainProcess, PlainDriver, Assign, Process, PlainFlat}
use Rattle.rst_cycle.specs.Signals.{Whole, with_role, width_of, role_of, is_wired}
use Rattle.rst_cycle.specs.Bits.{has_bit, spelled, bits_of}
use Rattle.rst_cycle.specs.Effects.{beginning, effect, target_width, target_number}
use Rattle.rst_cycle.specs.Drivers.{drives, sets}
use Rattle.rst_cycle.specs.Resets.{reset_of, read_bit}

-- how many bits signals have together
abbrev pub bit_count : List Whole → ℕ
bit_count signals = sum (map (λ s. s.width) signals)

-- The valuation in which these signals have the bits of a list, one signal behind the other; all others are 0.
abbrev pub given : List Whole → List Bool → Valuation
given [] bits i = 0
given (s ∷ signals) bits i = cond (nat_eq i s.number) (spelled (take s.width bits)) (given signals (drop s.width bits) i)

-- the bits of these signals under a valuation
abbrev pub listed : List Whole → Valuation → List Bool
listed signals values = flat_map (λ s. bits_of s.width (values s.number)) signals

-- Whether a unit drives a bit.
abbrev pub is_driven : PlainFlat → ℕ → ℕ → Bool
is_driven flat i place = list_any (λ unit. drives unit i place) flat.units

-- What a unit asks of a valuation: that an assign's or a link's target has the value of its right side, cut to the target, and
-- that the bits that a block sets have the values that it leaves them with.
abbrev pub Holds : Valuation → PlainDriver → Type 0
Holds signals (Assign set) = target_number set.target signals ≡ (value signals set.value).value % 2 ^ target_width set.target
Holds signals (Process process) = (i place : ℕ) → sets process.body i place ≡ true
    → has_bit (signals i) place ≡ has_bit ((effect process.body (beginning signals signals)).last i) place

-- The settled valuation of a cycle: inputs have the bits of the input, registers those of the state, or of their resets while
-- these hold, clocks and bits without a driver are 0, and each unit holds (the fixed point of the combinational logic).
pub record Settled (flat : PlainFlat) (state input : List Bool) (signals : Valuation) : Type 0 where
  pub in_range : (i : ℕ) → signals i < 2 ^ width_of flat.signals i
  pub inputs : (i : ℕ) → role_of flat.signals i ≡ role.Input → signals i ≡ given (with_role role.Input flat.signals) input i
  pub registers : (i place : ℕ) → role_of flat.signals i ≡ role.Register → place < width_of flat.signals i
      → has_bit (signals i) place ≡ read_bit (reset_of flat.clocked i place) signals (has_bit (given (with_role role.Register flat.signals) state i) place)
  pub clocks : (i : ℕ) → role_of flat.signals i ≡ role.Clock → signals i ≡ 0
  pub undriven : (i place : ℕ) → is_wired (role_of flat.signals i) ≡ true → is_driven flat i place ≡ false → has_bit (signals i) place ≡ false
  pub units : (unit : PlainDriver) → Contains flat.units unit → Holds signals unit

-- What the clocked blocks leave: each reads the settled valuation, and a bit that none of them sets is held.
abbrev pub clocked_effect : Valuation → List PlainProcess → Valuation → Valuation
clocked_effect signals [] held = held
clocked_effect signals (process ∷ processes) held = clocked_effect signals processes (effect process.body (beginning signals held)).last

-- the state behind the clock's edge
abbrev pub next_state : PlainFlat → List Bool → Valuation → List Bool
next_state flat state signals =
    let registers = with_role role.Register flat.signals in
    listed registers (clocked_effect signals flat.clocked (given registers state))

abbrev pub output_bits : PlainFlat → Valuation → List Bool
output_bits flat signals = flat_map (λ i. bits_of (width_of flat.signals i) (signals i)) flat.outputs

-- a cycle: what the settled valuation shows, and the state that it leads to
pub record IsCycle (flat : PlainFlat) (state input out next : List Bool) : Type 0 where
  pub signals : Valuation
  pub settled : Settled flat state input signals
  pub shows : out ≡ output_bits flat signals
  pub leads : next ≡ next_state flat state signals

-- The machine of a flat design, on all states and inputs of the right lengths.
pub record IsMachineOf (flat : PlainFlat) (m : Machine) : Type 0 where
  pub registers : m.registers ≡ bit_count (with_role role.Register flat.signals)
  pub inputs : m.inputs ≡ bit_count (with_role role.Input flat.signals)
  pub outputs : m.outputs ≡ sum (map (width_of flat.signals) flat.outputs)
  pub cycles : (state input : List Bool) → length state ≡ m.registers → length input ≡ m.inputs
      → IsCycle flat state input (m.out state input) (m.step state input)
