-- The one law of relations, at shared gates: the algebra of the gates so far against the operations on their values.
use Rattle.std.proofs.Common.{◌≡◌, Bool, true, false, cond, refl, sym, ap, ◌∙◌}
use Rattle.rst_value.specs.declared.tern.Tern.TheVariants.{One, Zero}
use Rattle.rst_value.specs.Terns.{known}
use Rattle.std.proofs.Common.{List}
use Rattle.rst_gate.specs.Operations.{Operations}
use Rattle.rst_gate.specs.GateLists.{GateList}
use Rattle.rst_gate.specs.SharedGates.{constant_edge}
use Rattle.rst_gate.specs.EdgeValues.{IsPrefix, IsRead, Stands}
use Rattle.rst_gate.proofs.SharedMeaning.{Folds, and_prefix, xor_prefix, mux_prefix, constant_value, turned_value, and_value, xor_value, mux_value}
use Rattle.rst_terms.specs.Algebras.{pure}
use Rattle.rst_terms.proofs.Respects.{Respects}
use Rattle.rst_terms.proofs.Respects as law
use Rattle.rst_terms.proofs.RespectsMoves as move
use Rattle.rst_terms.proofs.RespectsOperators as operator
use Rattle.rst_word_gates.specs.GateAlgebra.{gates_so_far}
use Rattle.rst_word_gates.specs.GateLaws.{WordsAre}

pub bits_constant : (b : Bool) → b ≡ cond b true false
bits_constant true = refl
bits_constant false = refl

pub terns_constant : (b : Bool) → known b ≡ cond b One Zero
terns_constant true = refl
terns_constant false = refl

module _ {X : Type 0} (k : Bool → X) (O : Operations X) (f : Folds O) (constants : (b : Bool) → k b ≡ cond b (O.negation O.low) O.low) where
  pub gates_respect : (G : GateList) (sources : List X) → IsRead G sources → Respects (IsPrefix G) (Stands O G sources) gates_so_far (pure k O)
  gates_respect G sources read = record {
    constant = λ b. constant_value O f G sources read (constant_edge b) refl ∙ sym (constants b);
    negation = λ a x p. turned_value O f G sources read true a ∙ ap O.negation p;
    both_good = λ s a b. and_prefix G s a b;
    differ_good = λ s a b. xor_prefix G s a b;
    choice_good = λ s c a b. mux_prefix G s c a b;
    both = λ s t a b x y g p q. and_value O f G sources read s a b g ∙ (λ i. O.both (p i) (q i));
    differ = λ s t a b x y g p q. xor_value O f G sources read s a b g ∙ (λ i. O.differ (p i) (q i));
    choice = λ s t c a b z x y g o p q. mux_value O f G sources read s c a b g ∙ (λ i. O.choice (o i) (p i) (q i));
  }

  pub words_are : WordsAre k O
  words_are = record {
    unary = λ op G g sources us es read good p.
        operator.unary_related (IsPrefix G) (Stands O G sources) gates_so_far (pure k O) (gates_respect G sources read) op es us g tt good p;
    binary = λ op signed G g sources us ws es fs read good p q.
        operator.binary_related (IsPrefix G) (Stands O G sources) gates_so_far (pure k O) (gates_respect G sources read) op signed es fs us ws g tt good p q;
    extension = λ signed width G sources us es read p.
        operator.extended_related (IsPrefix G) (Stands O G sources) gates_so_far (pure k O) (gates_respect G sources read) signed width es us p;
    bits = λ op G g sources us es read good p.
        law.reduced_related (IsPrefix G) (Stands O G sources) gates_so_far (pure k O) (gates_respect G sources read) op es us g tt good p;
    same = λ G g sources us ws es fs read good p q.
        law.equal_related (IsPrefix G) (Stands O G sources) gates_so_far (pure k O) (gates_respect G sources read) es fs us ws g tt good p q;
    choice = λ G g sources us ws es fs c z read good h p q.
        law.chosen_related (IsPrefix G) (Stands O G sources) gates_so_far (pure k O) (gates_respect G sources read) es fs us ws g tt c z good h p q;
    select = λ G g sources us ws ns es read good p q.
        move.selected_related (IsPrefix G) (Stands O G sources) gates_so_far (pure k O) (gates_respect G sources read) ns us es ws g tt good p q;
  }
