-- Shared gates: what an asked `and`, `xor` or `mux` answers, and the gates behind it.
use Rattle.std.specs.Prelude.{ℕ, ◌+◌, Bool, false, not, ◌&&◌, ◌||◌, List, [], ◌∷◌, ◌++◌, nat_eq, nat_lt, if◌then◌else◌}
use Rattle.std.specs.Bool.{beq}
use Rattle.std.specs.List.{list_any, position_or_len}
use Rattle.rst_value.specs.Bits.{bit_xor}
use Rattle.rst_gate.specs.declared.edge.Edge.{Edge}
use Rattle.rst_gate.specs.declared.edge.Gate.{Gate}
use Rattle.rst_gate.specs.declared.edge.Gate.TheVariants.{And, Xor, Mux}
use Rattle.rst_gate.specs.GateLists.{GateList, plain_edge}

-- the gates behind a call, and the edge that it answers
abbrev pub Asked : Type 0
Asked = GateList × Edge

abbrev pub same_edge : Edge → Edge → Bool
same_edge a b = nat_eq a.node b.node && beq a.inverted b.inverted

abbrev pub same_gate : Gate → Gate → Bool
same_gate (And a b) (And c d) = same_edge a c && same_edge b d
same_gate (And a b) (Xor c d) = false
same_gate (And a b) (Mux s c d) = false
same_gate (Xor a b) (Xor c d) = same_edge a c && same_edge b d
same_gate (Xor a b) (And c d) = false
same_gate (Xor a b) (Mux s c d) = false
same_gate (Mux r a b) (Mux s c d) = same_edge r s && (same_edge a c && same_edge b d)
same_gate (Mux r a b) (And c d) = false
same_gate (Mux r a b) (Xor c d) = false

-- node 0 is the constant false
abbrev pub constant_edge : Bool → Edge
constant_edge bit = record { node = 0; inverted = bit }

-- the edge, inverted where the bit is true
abbrev pub turned : Bool → Edge → Edge
turned bit e = record { node = e.node; inverted = bit_xor bit e.inverted }

abbrev pub first_gate_node : GateList → ℕ
first_gate_node g = 1 + g.inputs + g.states

-- the place of the gate among the gates, or the next place
abbrev pub place_of : List Gate → Gate → ℕ
place_of gates gate = position_or_len (same_gate gate) gates

abbrev pub with_shared : List Gate → Gate → List Gate
with_shared gates gate = if list_any (same_gate gate) gates then gates else gates ++ gate ∷ []

-- the edge of a gate: of the equal one that stands already, or of the new one
unfoldable pub shared : GateList → Gate → Asked
shared g gate =
    (record { inputs = g.inputs; states = g.states; gates = with_shared g.gates gate }, plain_edge (first_gate_node g + place_of g.gates gate))

-- the order of two operands: the lower node first, of one node the plain edge first
abbrev pub is_first : Edge → Edge → Bool
is_first a b = nat_lt a.node b.node || (nat_eq a.node b.node && not a.inverted)

unfoldable pub asked_and : GateList → Edge → Edge → Asked
asked_and g a b =
    if nat_eq a.node 0 then (g, if a.inverted then b else a)
    else if nat_eq b.node 0 then (g, if b.inverted then a else b)
    else if is_first a b then shared g (And a b)
    else shared g (And b a)

unfoldable pub asked_xor : GateList → Edge → Edge → Asked
asked_xor g a b =
    if nat_eq a.node 0 then (g, turned a.inverted b)
    else if nat_eq b.node 0 then (g, turned b.inverted a)
    else if is_first a b then shared g (Xor a b)
    else shared g (Xor b a)

unfoldable pub asked_mux : GateList → Edge → Edge → Edge → Asked
asked_mux g select one zero =
    if nat_eq select.node 0 then (g, if select.inverted then one else zero)
    else shared g (Mux select one zero)
