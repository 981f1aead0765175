-- What the gates of a statement stand for.
use Rattle.std.specs.Prelude.{Bool, List}
use Rattle.std.specs.List.{AllZip}
use Rattle.rst_gate.specs.declared.edge.Edge.{Edge}
use Rattle.rst_gate.specs.Operations.{Operations}
use Rattle.rst_gate.specs.GateLists.{GateList}
use Rattle.rst_gate.specs.EdgeValues.{IsPrefix, IsRead, Stands}
use Rattle.rst_net.specs.Statements.{Statement}
use Rattle.rst_terms.specs.Algebras.{pure}
use Rattle.rst_word_gates.specs.GateAlgebra.{gates_so_far}
use Rattle.rst_word_gates.specs.GateLaws.{Reads}
use Rattle.rst_statement_terms.specs.Targets.{Words}
use Rattle.rst_statement_terms.specs.Statements.{Sight, Held, Current, statement_bits}

-- reads that see related bits
abbrev pub SeeAlike : {X Y : Type 0} → (X → Y → Type 0) → Sight X → Sight Y → Type 0
SeeAlike R (Held ws) (Held vs) = AllZip (AllZip R) ws vs
SeeAlike R (Held ws) Current = ⊥
SeeAlike R Current (Held vs) = ⊥
SeeAlike R Current Current = Unit {0}

-- edges that have the values of the signals' words in these gates
abbrev pub TableReads : {X : Type 0} → Operations X → GateList → List X → Words Edge → Words X → Type 0
TableReads O G sources = AllZip (Reads O G sources)

-- In any gates that begin with those behind a statement, its edges have the values that its terms have over the operations, wherever
-- the edges of the signals have those of the signals.
abbrev pub StatementsAre : {X : Type 0} → (Bool → X) → Operations X → Type 0
StatementsAre {X} k O =
    (G g : GateList) (sources : List X) (edges : Sight Edge) (values : Sight X) (wires : Words Edge) (words : Words X) (st : Statement)
    → IsRead G sources → IsPrefix G (statement_bits gates_so_far edges g wires st).0
    → SeeAlike (Stands O G sources) edges values → TableReads O G sources wires words
    → TableReads O G sources (statement_bits gates_so_far edges g wires st).1 (statement_bits (pure k O) values tt words st).1
