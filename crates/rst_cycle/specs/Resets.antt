-- The resets that bits of registers have (IEEE 1364.1-2002, edge-sensitive storage with asynchronous set and reset).
use Rattle.std.specs.Prelude.{ℕ, Bool, cond, List, [], ◌∷◌, Option, Some, None}
use Rattle.rst_width.specs.Values.{Valuation}
use Rattle.rst_net.specs.declared.unit.Reset.{Reset}
use Rattle.rst_net.specs.Statements.{Statement, If}
use Rattle.rst_net.specs.Units.{PlainProcess}
use Rattle.rst_cycle.specs.Bits.{has_bit, same_bit}
use Rattle.rst_cycle.specs.Effects.{beginning, effect}
use Rattle.rst_cycle.specs.Drivers.{sets}

-- An asynchronous reset of one bit: the input of the top, the level at which it holds, and the value that it forces.
pub record BitReset : Type 0 where
  pub signal : ℕ
  pub level : Bool
  pub value : Bool

-- The values that a first branch has set, which name no signal.
abbrev pub forced : Statement → Valuation
forced branch = (effect branch (beginning (λ _. 0) (λ _. 0))).last

-- A bit that the first branch of a reset form sets has its reset.
abbrev pub branch_reset : Reset → Statement → ℕ → ℕ → Option BitReset
branch_reset reset (If condition first second) i place =
    cond (sets first i place) (Some (record { signal = reset.signal; level = reset.level; value = has_bit (forced first i) place })) None
branch_reset reset _ i place = None

abbrev pub process_reset : PlainProcess → ℕ → ℕ → Option BitReset
process_reset process i place = elim process.reset [ None ↦ None | Some reset ↦ branch_reset reset process.body i place ]

abbrev pub or_else : Option BitReset → Option BitReset → Option BitReset
or_else None other = other
or_else (Some reset) other = Some reset

-- the reset of a bit, if it has one
abbrev pub reset_of : List PlainProcess → ℕ → ℕ → Option BitReset
reset_of [] i place = None
reset_of (process ∷ processes) i place = or_else (process_reset process i place) (reset_of processes i place)

-- The value of a register's bit that is read: the forced value while its reset holds, else the bit that is held.
abbrev pub read_bit : Option BitReset → Valuation → Bool → Bool
read_bit None signals held = held
read_bit (Some reset) signals held = cond (same_bit (has_bit (signals reset.signal) 0) reset.level) reset.value held
