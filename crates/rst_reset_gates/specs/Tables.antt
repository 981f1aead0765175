-- The table of the resets of bits.
use Rattle.std.specs.Prelude.{◌≡◌, ℕ, ◌<◌, Bool, false, cond, List, [], length, map, replicate, slice_index_or, Option, Some, None}
use Rattle.std.specs.Option.{option_map}
use Rattle.rst_gate.specs.declared.edge.Edge.{Edge}
use Rattle.rst_gate.specs.SharedGates.{constant_edge}
use Rattle.rst_net.specs.declared.signal.Role.{Role}
use Rattle.rst_net.specs.declared.signal.Role.TheVariants as role
use Rattle.rst_net.specs.declared.unit.Reset.{Reset}
use Rattle.rst_net.specs.Statements.{Statement}
use Rattle.rst_net.specs.Units.{PlainSignal, PlainProcess}
use Rattle.rst_cycle.specs.Bits.{has_bit}
use Rattle.rst_cycle.specs.Signals.{width_of, role_of}
use Rattle.rst_cycle.specs.Drivers.{sets}
use Rattle.rst_cycle.specs.Resets.{BitReset, forced, process_reset, or_else, reset_of}
use Rattle.rst_lower.specs.WireWords.{widths_of}
use Rattle.rst_statement_terms.specs.Targets.{Words, word_of}
use Rattle.rst_reset_gates.specs.declared.table.BitReset as code

abbrev pub plain_reset : code.BitReset → BitReset
plain_reset r = record { signal = r.signal; level = r.level; value = r.value }

abbrev pub Rows : Type 0
Rows = List (List (Option code.BitReset))

abbrev pub row_of : Rows → ℕ → List (Option code.BitReset)
row_of rows i = slice_index_or rows i []

-- the reset that a table has of a bit
abbrev pub reset_at : Rows → ℕ → ℕ → Option BitReset
reset_at rows i place = option_map plain_reset (slice_index_or (row_of rows i) place None)

-- only registers have rows
abbrev pub row_width : Role → ℕ → ℕ
row_width role.Register width = width
row_width _ width = 0

abbrev pub no_resets : List PlainSignal → Rows
no_resets signals = map (λ s. replicate (row_width s.role s.extent.width) None) signals

-- the value of a constant edge at a bit
abbrev pub value_at : Words Edge → ℕ → ℕ → Bool
value_at wires i place = (slice_index_or (word_of wires i) place (constant_edge false)).inverted

-- the bits that pass a test have a reset with these values in place of what they had
pub record Gives (reset : Reset) (which value : ℕ → ℕ → Bool) (old new : Rows) : Type 0 where
  pub widths : (i : ℕ) → length (row_of new i) ≡ length (row_of old i)
  pub bits : (i place : ℕ) → place < length (row_of new i)
      → reset_at new i place ≡ cond (which i place) (Some (record { signal = reset.signal; level = reset.level; value = value i place })) (reset_at old i place)

-- the resets of a block stand before those that a table had
pub record Precedes (process : PlainProcess) (old new : Rows) : Type 0 where
  pub widths : (i : ℕ) → length (row_of new i) ≡ length (row_of old i)
  pub bits : (i place : ℕ) → place < length (row_of new i) → reset_at new i place ≡ or_else (process_reset process i place) (reset_at old i place)

-- a table of the registers' bits
pub record IsTable (signals : List PlainSignal) (clocked : List PlainProcess) (rows : Rows) : Type 0 where
  pub widths : (i : ℕ) → length (row_of rows i) ≡ row_width (role_of signals i) (width_of signals i)
  pub bits : (i place : ℕ) → place < length (row_of rows i) → reset_at rows i place ≡ reset_of clocked i place

-- What a branch leaves of wires that were all 0: the values that it forces, and what it doesn't set is as it was.
pub record IsForced (st : Statement) (blank wires : Words Edge) : Type 0 where
  pub count : length wires ≡ length blank
  pub widths : (i : ℕ) → widths_of wires i ≡ widths_of blank i
  pub bits : (i place : ℕ) → place < widths_of blank i → value_at wires i place ≡ has_bit (forced st i) place
  pub kept : (i : ℕ) → ((place : ℕ) → sets st i place ≡ false) → word_of wires i ≡ word_of blank i
