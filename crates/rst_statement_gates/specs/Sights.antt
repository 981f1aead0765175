-- What the reads of a block see.
use Rattle.std.specs.Prelude.{◌≡◌, ℕ, ◌≤◌, Bool, true, false, List}
use Rattle.rst_gate.specs.declared.edge.Edge.{Edge}
use Rattle.rst_lower.specs.WireWords.{widths_of, WiresStand}
use Rattle.rst_statement_terms.specs.Statements.{Sight, Held, Current}

-- a clocked block sees the bits that stand when it begins
abbrev pub sight_of : Bool → List (List Edge) → Sight Edge
sight_of true held = Held held
sight_of false held = Current

-- The wires name the first n nodes, and no signal has more than 64 bits. Those that a clocked block reads do so too, and have the
-- same widths.
pub record AreWires (n : ℕ) (clocked : Bool) (held wires : List (List Edge)) : Type 0 where
  pub stand : WiresStand n wires
  pub at_most_64 : (i : ℕ) → widths_of wires i ≤ 64
  pub held_stand : clocked ≡ true → WiresStand n held
  pub widths : clocked ≡ true → widths_of held ≡ widths_of wires
