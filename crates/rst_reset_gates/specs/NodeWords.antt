-- The wires before any gate, by the numbers of their nodes.
use Rattle.std.specs.Prelude.{◌≡◌, ℕ, ◌+◌, false, cond, List, [], ◌∷◌, length, replicate}
use Rattle.rst_gate.specs.declared.edge.Edge.{Edge}
use Rattle.rst_gate.specs.SharedGates.{constant_edge}
use Rattle.rst_net.specs.declared.signal.Role.{Role}
use Rattle.rst_net.specs.declared.signal.Role.TheVariants as role
use Rattle.rst_net.specs.Units.{PlainSignal}
use Rattle.rst_cycle.specs.Signals.{same_role}
use Rattle.rst_statement_terms.specs.Targets.{Words}
use Rattle.rst_design_terms.specs.Designs.{turned}
use Rattle.rst_design_terms.specs.Gates.{nodes_from}

-- how many bits a signal takes of those with a role
abbrev pub taken : Role → Role → ℕ → ℕ
taken wanted r width = cond (same_role r wanted) width 0

-- how many bits the signals with a role have together
abbrev pub role_bits : Role → List PlainSignal → ℕ
role_bits wanted [] = 0
role_bits wanted (s ∷ signals) = taken wanted s.role s.extent.width + role_bits wanted signals

-- the word of a signal, where the next input and the next state have these nodes
abbrev pub node_word : Role → ℕ → ℕ → ℕ → List Edge
node_word role.Input width input state = turned (nodes_from input width)
node_word role.Register width input state = turned (nodes_from state width)
node_word _ width input state = replicate width (constant_edge false)

abbrev pub node_words : List PlainSignal → ℕ → ℕ → Words Edge
node_words [] input state = []
node_words (s ∷ signals) input state =
    let w : ℕ = s.extent.width in
    node_word s.role w input state ∷ node_words signals (input + taken role.Input s.role w) (state + taken role.Register s.role w)

-- all bits 0
abbrev pub blank_words : List PlainSignal → Words Edge
blank_words [] = []
blank_words (s ∷ signals) = replicate s.extent.width (constant_edge false) ∷ blank_words signals

abbrev pub blanked : Words Edge → Words Edge
blanked [] = []
blanked (word ∷ words) = replicate (length word) (constant_edge false) ∷ blanked words

-- all bits are 0
abbrev pub IsBlank : Words Edge → Type 0
IsBlank words = words ≡ blanked words
