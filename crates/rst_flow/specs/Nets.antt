-- What holds of every netlist.
use Rattle.std.specs.Prelude.{ℕ, ◌<◌, ◌≤◌, List, sum, map}
use Rattle.rst_net.specs.Units.{PlainSignal, PlainDriver, PlainProcess}
use Rattle.rst_net.specs.declared.signal.Role.TheVariants as role
use Rattle.rst_cycle.specs.Signals.{with_role, width_of}
use Rattle.rst_cycle.specs.Cycle.{bit_count}
use Rattle.rst_weight.specs.Weights.{parts_weight}
use Rattle.rst_flow.specs.Edges.{IsEdge}

-- Each unit reads only inputs, registers, bits of earlier units and, in a block, that block's own bits: edges lead from earlier
-- units to later ones.
abbrev pub IsInOrder : ℕ → List PlainDriver → Type 0
IsInOrder count units = (a b : ℕ) → IsEdge count units a b → a < b

-- the most that a design may weigh
abbrev pub IsLight : List PlainSignal → List PlainDriver → List PlainProcess → Type 0
IsLight signals units clocked = parts_weight signals units clocked ≤ 16384

-- at most 512 bits of registers, 256 of inputs and 256 of outputs
pub record HasFewBits (signals : List PlainSignal) (outputs : List ℕ) : Type 0 where
  pub registers : bit_count (with_role role.Register signals) ≤ 512
  pub inputs : bit_count (with_role role.Input signals) ≤ 256
  pub output_bits : sum (map (width_of signals) outputs) ≤ 256
