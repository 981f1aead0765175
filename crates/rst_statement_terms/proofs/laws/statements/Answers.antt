use Rattle.rst_value.specs.Terns.{known}
use Rattle.rst_gate.specs.Operations.{on_bits, on_terns}
use Rattle.rst_gate.specs.EdgeValues.{IsPrefix, Stands}
use Rattle.rst_gate.proofs.FoldLaws.{bits_fold, terns_fold}
use Rattle.rst_terms.specs.Algebras.{pure}
use Rattle.rst_word_gates.specs.GateAlgebra.{gates_so_far}
use Rattle.rst_word_gates.proofs.Meaning.{gates_respect, bits_constant, terns_constant}
use Rattle.rst_statement_terms.proofs.RelatedStatements.{statement_related}
use Rattle.rst_statement_terms.proofs.laws.statements.Goals as goal

pub returns-clause-two : goal.returns-clause-two
returns-clause-two c G g sources edges values wires words st read good see related =
    statement_related (IsPrefix G) (Stands on_bits G sources) gates_so_far (pure (λ b. b) on_bits)
    (gates_respect (λ b. b) on_bits bits_fold bits_constant G sources read) edges values see st g tt wires words related good

pub returns-clause-three : goal.returns-clause-three
returns-clause-three c G g sources edges values wires words st read good see related =
    statement_related (IsPrefix G) (Stands on_terns G sources) gates_so_far (pure known on_terns)
    (gates_respect known on_terns terns_fold terns_constant G sources read) edges values see st g tt wires words related good
