-- What the gates of a word's operator stand for, over any operations.
use Rattle.std.specs.Prelude.{ℕ, Bool, List}
use Rattle.std.specs.List.{AllZip}
use Rattle.rst_word.specs.declared.ops.UnaryOp.{UnaryOp}
use Rattle.rst_word.specs.declared.ops.BinaryOp.{BinaryOp}
use Rattle.rst_gate.specs.declared.edge.Edge.{Edge}
use Rattle.rst_gate.specs.Operations.{Operations}
use Rattle.rst_gate.specs.GateLists.{GateList}
use Rattle.rst_gate.specs.EdgeValues.{IsPrefix, IsRead, Stands}
use Rattle.rst_terms.specs.declared.kinds.Connective.{Connective}
use Rattle.rst_terms.specs.Algebras.{pure}
use Rattle.rst_terms.specs.Recurrences.{reduced, equal, chosen, selected}
use Rattle.rst_terms.specs.Operators.{unary_bits, binary_bits, extended}
use Rattle.rst_word_gates.specs.GateAlgebra.{gates_so_far}

-- edges that have the values of a word in these gates
abbrev pub Reads : {X : Type 0} → Operations X → GateList → List X → List Edge → List X → Type 0
Reads O G sources = AllZip (Stands O G sources)

-- In any gates that begin with those behind an operator, its edges have the values that the operator gives of its operands' values.
pub record WordsAre {X : Type 0} (k : Bool → X) (O : Operations X) : Type 0 where
  pub unary : (op : UnaryOp) (G g : GateList) (sources us : List X) (es : List Edge) → IsRead G sources
      → IsPrefix G (unary_bits gates_so_far op g es).0 → Reads O G sources es us
      → Reads O G sources (unary_bits gates_so_far op g es).1 (unary_bits (pure k O) op tt us).1
  pub binary : (op : BinaryOp) (signed : Bool) (G g : GateList) (sources us ws : List X) (es fs : List Edge) → IsRead G sources
      → IsPrefix G (binary_bits gates_so_far op signed g es fs).0 → Reads O G sources es us → Reads O G sources fs ws
      → Reads O G sources (binary_bits gates_so_far op signed g es fs).1 (binary_bits (pure k O) op signed tt us ws).1
  pub extension : (signed : Bool) (width : ℕ) (G : GateList) (sources us : List X) (es : List Edge) → IsRead G sources
      → Reads O G sources es us → Reads O G sources (extended gates_so_far signed width es) (extended (pure k O) signed width us)
  pub bits : (op : Connective) (G g : GateList) (sources us : List X) (es : List Edge) → IsRead G sources
      → IsPrefix G (reduced gates_so_far op g es).0 → Reads O G sources es us
      → Stands O G sources (reduced gates_so_far op g es).1 (reduced (pure k O) op tt us).1
  pub same : (G g : GateList) (sources us ws : List X) (es fs : List Edge) → IsRead G sources
      → IsPrefix G (equal gates_so_far g es fs).0 → Reads O G sources es us → Reads O G sources fs ws
      → Stands O G sources (equal gates_so_far g es fs).1 (equal (pure k O) tt us ws).1
  pub choice : (G g : GateList) (sources us ws : List X) (es fs : List Edge) (c : Edge) (z : X) → IsRead G sources
      → IsPrefix G (chosen gates_so_far g c es fs).0 → Stands O G sources c z → Reads O G sources es us → Reads O G sources fs ws
      → Reads O G sources (chosen gates_so_far g c es fs).1 (chosen (pure k O) tt z us ws).1
  pub select : (G g : GateList) (sources us ws : List X) (ns es : List Edge) → IsRead G sources
      → IsPrefix G (selected gates_so_far g ns es).0 → Reads O G sources ns us → Reads O G sources es ws
      → Reads O G sources (selected gates_so_far g ns es).1 (selected (pure k O) tt us ws).1
