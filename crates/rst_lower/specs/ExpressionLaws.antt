-- What the gates of an expression stand for.
use Rattle.std.specs.Prelude.{ℕ, Bool, List, map}
use Rattle.rst_gate.specs.declared.edge.Edge.{Edge}
use Rattle.rst_gate.specs.Operations.{Operations, on_bits}
use Rattle.rst_gate.specs.GateLists.{GateList}
use Rattle.rst_gate.specs.EdgeValues.{IsPrefix, IsRead, value_in}
use Rattle.rst_width.specs.Typed.{Typed}
use Rattle.rst_width.specs.Values.{Valuation, value}
use Rattle.rst_width.specs.Fit.{IsFit}
use Rattle.rst_width.specs.Reads.{ReadsInside}
use Rattle.rst_terms.specs.Algebras.{pure}
use Rattle.rst_terms.specs.Spelling.{Spells}
use Rattle.rst_word_gates.specs.GateAlgebra.{gates_so_far}
use Rattle.rst_word_gates.specs.GateLaws.{Reads}
use Rattle.rst_typed_terms.specs.Expressions.{expression_bits}
use Rattle.rst_typed_terms.specs.Valuations.{AreSpelled}

-- In any gates that begin with those behind an expression, its edges have the values that its terms have over the operations,
-- wherever the edges of the signals have those of the signals.
abbrev pub ExpressionsAre : {X : Type 0} → (Bool → X) → Operations X → Type 0
ExpressionsAre {X} k O =
    (G g : GateList) (sources : List X) (wires : ℕ → List Edge) (words : ℕ → List X) (e : Typed) → IsRead G sources
    → IsPrefix G (expression_bits gates_so_far wires g e).0 → ((i : ℕ) → Reads O G sources (wires i) (words i))
    → Reads O G sources (expression_bits gates_so_far wires g e).1 (expression_bits (pure k O) words tt e).1

-- in two values they spell the expression's value, wherever those of the signals spell theirs
abbrev pub ExpressionsSpellValues : Type 0
ExpressionsSpellValues =
    (G g : GateList) (sources : List Bool) (wires : ℕ → List Edge) (widths : ℕ → ℕ) (signals : Valuation) (e : Typed) → IsRead G sources
    → IsPrefix G (expression_bits gates_so_far wires g e).0 → IsFit e → ReadsInside widths e
    → AreSpelled widths (λ i. map (value_in on_bits G sources) (wires i)) signals
    → Spells (map (value_in on_bits G sources) (expression_bits gates_so_far wires g e).1) (value signals e)
