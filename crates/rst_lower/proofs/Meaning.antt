-- What the gates of an expression stand for.
use Rattle.std.proofs.Common.{◌≡◌, ℕ, Bool, cond, List, [], ◌∷◌, length, map, refl, ap, ◌∙◌}
use Rattle.rst_gate.specs.declared.edge.Edge.{Edge}
use Rattle.rst_gate.specs.Operations.{Operations, on_bits}
use Rattle.rst_gate.specs.GateLists.{GateList}
use Rattle.rst_gate.specs.EdgeValues.{IsPrefix, value_in, Stands}
use Rattle.rst_gate.proofs.SharedMeaning.{Folds}
use Rattle.rst_gate.proofs.FoldLaws.{bits_fold}
use Rattle.rst_terms.specs.Algebras.{pure, bits}
use Rattle.rst_terms.specs.Numbers.{number}
use Rattle.rst_word_gates.specs.GateAlgebra.{gates_so_far}
use Rattle.rst_word_gates.specs.GateLaws.{Reads}
use Rattle.rst_word_gates.proofs.Meaning.{gates_respect, bits_constant}
use Rattle.rst_typed_terms.specs.Expressions.{expression_bits}
use Rattle.rst_typed_terms.proofs.Related.{expression_related}
use Rattle.rst_typed_terms.proofs.Values.{expression_spells}
use Rattle.rst_lower.specs.ExpressionLaws.{ExpressionsAre, ExpressionsSpellValues}

pub expressions_are : {X : Type 0} (k : Bool → X) (O : Operations X) → Folds O → ((b : Bool) → k b ≡ cond b (O.negation O.low) O.low) → ExpressionsAre k O
expressions_are k O f constants G g sources wires words e read good related =
    expression_related (IsPrefix G) (Stands O G sources) gates_so_far (pure k O) (gates_respect k O f constants G sources read) wires words related e g tt good

-- edges that have the values of a word are read as it
read_as : {X : Type 0} (O : Operations X) (G : GateList) (sources : List X) (es : List Edge) (us : List X) → Reads O G sources es us → map (value_in O G sources) es ≡ us
read_as O G sources [] [] h = refl
read_as O G sources [] (u ∷ us) h = absurd h
read_as O G sources (e ∷ es) [] h = absurd h
read_as O G sources (e ∷ es) (u ∷ us) h = let p = h.0 in let q = read_as O G sources es us h.1 in λ i. p i ∷ q i

reads_itself : {X : Type 0} (O : Operations X) (G : GateList) (sources : List X) (es : List Edge) → Reads O G sources es (map (value_in O G sources) es)
reads_itself O G sources [] = tt
reads_itself O G sources (e ∷ es) = (refl, reads_itself O G sources es)

pub expressions_spell : ExpressionsSpellValues
expressions_spell G g sources wires widths signals e read good fit reads spelled =
    let words : ℕ → List Bool = λ i. map (value_in on_bits G sources) (wires i) in
    let terms : Reads on_bits G sources (expression_bits gates_so_far wires g e).1 (expression_bits bits words tt e).1 =
    expressions_are (λ b. b) on_bits bits_fold bits_constant G g sources wires words e read good (λ i. reads_itself on_bits G sources (wires i)) in
    let same = read_as on_bits G sources (expression_bits gates_so_far wires g e).1 (expression_bits bits words tt e).1 terms in
    let spells = expression_spells widths words signals spelled e fit reads in
    record { width = ap length same ∙ spells.width; value = ap number same ∙ spells.value }
