-- What the gates of a netlist stand for.
use Rattle.std.specs.Prelude.{◌≡◌, ◌+◌, ◌≤◌, List, length}
use Rattle.rst_value.specs.declared.tern.Tern.{Tern}
use Rattle.rst_gate.specs.Circuits.{IsCircuit}
use Rattle.rst_gate.specs.GateMachines.{machine_of, terns_of}
use Rattle.rst_net.specs.Units.{PlainFlat}
use Rattle.rst_cycle.specs.Signals.{width_of}
use Rattle.rst_cycle.specs.Resets.{reset_of}
use Rattle.rst_cycle.specs.Cycle.{IsMachineOf}
use Rattle.rst_terms.specs.Algebras.{terns}
use Rattle.rst_design_terms.specs.Designs.{design_bits}
use Rattle.rst_design_terms.specs.Gates.{input_bits, state_bits, gates_of}
use Rattle.rst_design_terms.specs.Lowerable.{units_weight, clocked_weight}
use Rattle.rst_weight.specs.Weights.{weight}
use Rattle.rst_settled.specs.Orderly.{IsOrderly}
use Rattle.rst_reset_gates.specs.Counts.{reset_count}
use Rattle.rst_net_gates.specs.Netlists.{IsLowerable}

-- an input for each bit of the inputs, and a state for each bit of the registers
pub record HasPorts (flat : PlainFlat) : Type 0 where
  pub inputs : (gates_of flat).inputs ≡ input_bits flat
  pub states : (gates_of flat).states ≡ state_bits flat

-- The machine of the gates is the design's: on all states and inputs of the right lengths it shows what the settled valuation shows,
-- and leads to the state that the clocked blocks leave.
abbrev pub GatesAreDesigns : Type 0
GatesAreDesigns = (flat : PlainFlat) → IsOrderly flat → IsLowerable flat → IsCircuit (gates_of flat) → IsMachineOf flat (machine_of (gates_of flat))

-- the three-valued reading of the gates is that of the terms
pub record ReadsTerms (flat : PlainFlat) : Type 0 where
  pub out : (state input : List Tern) → length state ≡ state_bits flat → length input ≡ input_bits flat
      → (terns_of (gates_of flat)).out state input ≡ (design_bits terns flat tt input state).outs
  pub step : (state input : List Tern) → length state ≡ state_bits flat → length input ≡ input_bits flat
      → (terns_of (gates_of flat)).step state input ≡ (design_bits terns flat tt input state).nexts

-- one gate at most for each unit of weight: resets, units, clocked blocks
abbrev pub WeightBounds : Type 0
WeightBounds =
    (flat : PlainFlat) → IsLowerable flat
    → reset_count (reset_of flat.clocked) (length flat.signals)
    + (units_weight (width_of flat.signals) (length flat.signals) flat.units + clocked_weight (width_of flat.signals) (length flat.signals) flat.clocked) ≤ weight flat
