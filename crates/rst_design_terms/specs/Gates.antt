-- The gates of a design: its terms over the gates so far. Node 0 is the constant false, the inputs come next, then the states, and then
-- one node a gate.
use Rattle.std.specs.Prelude.{ℕ, zero, suc, ◌+◌, List, [], ◌∷◌}
use Rattle.rst_gate.specs.declared.edge.Edge.{Edge}
use Rattle.rst_gate.specs.GateLists.{GateList, plain_edge, finished}
use Rattle.rst_gate.specs.Circuits.{Circuit}
use Rattle.rst_word_gates.specs.GateAlgebra.{gates_so_far}
use Rattle.rst_net.specs.declared.signal.Role.TheVariants as role
use Rattle.rst_net.specs.Units.{PlainFlat}
use Rattle.rst_cycle.specs.Signals.{with_role}
use Rattle.rst_cycle.specs.Cycle.{bit_count}
use Rattle.rst_design_terms.specs.Designs.{Designed, design_bits}

-- so many nodes from a number on
abbrev pub nodes_from : ℕ → ℕ → List Edge
nodes_from first zero = []
nodes_from first (suc count) = plain_edge first ∷ nodes_from (suc first) count

abbrev pub input_bits : PlainFlat → ℕ
input_bits flat = bit_count (with_role role.Input flat.signals)

abbrev pub state_bits : PlainFlat → ℕ
state_bits flat = bit_count (with_role role.Register flat.signals)

-- no gate yet
abbrev pub no_gates : PlainFlat → GateList
no_gates flat = record { inputs = input_bits flat; states = state_bits flat; gates = [] }

abbrev pub designed : PlainFlat → Designed GateList Edge
designed flat = design_bits gates_so_far flat (no_gates flat) (nodes_from 1 (input_bits flat)) (nodes_from (1 + input_bits flat) (state_bits flat))

abbrev pub gates_of : PlainFlat → Circuit
gates_of flat =
    let d = designed flat in
    finished d.behind d.outs d.nexts
