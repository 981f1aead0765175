-- The edges of the signals' bits, by the signals' numbers.
use Rattle.std.specs.Prelude.{ℕ, List, [], length, slice_index_or}
use Rattle.std.specs.List.{All}
use Rattle.rst_gate.specs.declared.edge.Edge.{Edge}
use Rattle.rst_gate.specs.Circuits.{IsBelow}

-- the edges of a signal's bits, lowest first; of a number that no signal has, none
abbrev pub word_of : List (List Edge) → ℕ → List Edge
word_of wires i = slice_index_or wires i []

-- the widths of the signals
abbrev pub widths_of : List (List Edge) → ℕ → ℕ
widths_of wires i = length (word_of wires i)

-- each edge names one of the first n nodes
pub record WiresStand (n : ℕ) (wires : List (List Edge)) : Type 0 where
  pub each : (i : ℕ) → All (IsBelow n) (word_of wires i)
