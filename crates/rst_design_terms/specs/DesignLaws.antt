-- What the gates of a design stand for.
use Rattle.std.specs.Prelude.{◌≡◌, ℕ, Bool, List, length}
use Rattle.rst_gate.specs.Operations.{Operations}
use Rattle.rst_gate.specs.Circuits.{IsInOrder, first_gate}
use Rattle.rst_gate.specs.Nodes.{out_values, next_values}
use Rattle.rst_terms.specs.Algebras.{pure}
use Rattle.rst_net.specs.Units.{PlainFlat}
use Rattle.rst_design_terms.specs.Designs.{design_bits}
use Rattle.rst_design_terms.specs.Gates.{input_bits, state_bits, gates_of}

-- the output and next edges have the values of the terms over the operations
pub record DesignValues {X : Type 0} (k : Bool → X) (O : Operations X) (flat : PlainFlat) (inputs state : List X) : Type 0 where
  pub outs : out_values O (gates_of flat) inputs state ≡ (design_bits (pure k O) flat tt inputs state).outs
  pub nexts : next_values O (gates_of flat) inputs state ≡ (design_bits (pure k O) flat tt inputs state).nexts

-- for each input and state of the right lengths, where the gates stand in order
abbrev pub DesignsAre : {X : Type 0} → (Bool → X) → Operations X → Type 0
DesignsAre {X} k O =
    (flat : PlainFlat) (inputs state : List X) → length inputs ≡ input_bits flat → length state ≡ state_bits flat
    → IsInOrder (first_gate (gates_of flat)) (gates_of flat).gates → DesignValues k O flat inputs state
