-- Exactly one settled valuation, and exactly one machine.
use Rattle.std.specs.Prelude.{◌≡◌, ℕ, Bool, List, length}
use Rattle.rst_gate.specs.Machine.{Machine}
use Rattle.rst_width.specs.Values.{Valuation}
use Rattle.rst_net.specs.Units.{PlainFlat}
use Rattle.rst_cycle.specs.Cycle.{Settled, IsMachineOf}

-- A valuation is settled, and any other that is has the same value of each signal.
pub record HasOneSettled (flat : PlainFlat) (state input : List Bool) : Type 0 where
  pub signals : Valuation
  pub settled : Settled flat state input signals
  pub only : (other : Valuation) → Settled flat state input other → (i : ℕ) → other i ≡ signals i

-- two machines show and do the same on all states and inputs of the right lengths
abbrev pub DoTheSame : Machine → Machine → Type 0
DoTheSame m n =
    (state input : List Bool) → length state ≡ m.registers → length input ≡ m.inputs
    → (m.out state input ≡ n.out state input) × (m.step state input ≡ n.step state input)

-- A machine is the design's, and any other that is does the same.
pub record HasOneMachine (flat : PlainFlat) : Type 0 where
  pub machine : Machine
  pub is : IsMachineOf flat machine
  pub only : (other : Machine) → IsMachineOf flat other → DoTheSame machine other
