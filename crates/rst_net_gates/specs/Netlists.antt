-- Netlists as flat designs, and which of them have gates.
use Rattle.std.specs.Prelude.{ℕ, ◌+◌, ◌≤◌, List, length, map}
use Rattle.rst_gate.specs.declared.edge.Edge.{Edge}
use Rattle.rst_gate.specs.GateLists.{GateList}
use Rattle.rst_net.specs.Units.{PlainFlat, plain_signal, plain_driver, plain_process}
use Rattle.rst_cycle.specs.Signals.{Whole, width_of}
use Rattle.rst_cycle.specs.Resets.{reset_of}
use Rattle.rst_terms.specs.Algebras.{Step}
use Rattle.rst_word_gates.specs.GateAlgebra.{gates_so_far}
use Rattle.rst_statement_terms.specs.Targets.{Words}
use Rattle.rst_design_terms.specs.Designs.{reset_words, units_bits}
use Rattle.rst_design_terms.specs.Lowerable.{units_weight}
use Rattle.rst_flow.specs.declared.net.Net.{Net}
use Rattle.rst_agreement.specs.Fits.{DesignFits}
use Rattle.rst_reset_gates.specs.Counts.{reset_count}

-- the flat design that a netlist is, its units in their order
abbrev pub plain_net : Net → PlainFlat
plain_net net = record {
  signals = map plain_signal net.signals.items;
  units = map plain_driver net.units.items;
  clocked = map plain_process net.clocked.items;
  outputs = net.outputs.items;
}

pub record IsLowerable (flat : PlainFlat) : Type 0 where
  -- expressions, targets and labels have the widths that their places ask for, and the sets of each block are of its kind
  pub fits : DesignFits flat
  -- no signal has more than 64 bits
  pub widths : (i : ℕ) → width_of flat.signals i ≤ 64

-- ---- words of the contracts inside

abbrev pub numbers_of : List Whole → List ℕ
numbers_of signals = map (λ s. s.number) signals

-- the gates of resets and units, and the wires behind them
abbrev pub settled_bits : PlainFlat → GateList → Words Edge → Step GateList (Words Edge)
settled_bits flat s start =
    let reads = reset_words gates_so_far start (reset_of flat.clocked) s 0 flat.signals start in
    units_bits gates_so_far reads.0 reads.1 flat.units

-- how many they are at most
abbrev pub settled_weight : PlainFlat → ℕ
settled_weight flat = reset_count (reset_of flat.clocked) (length flat.signals) + units_weight (width_of flat.signals) (length flat.signals) flat.units
