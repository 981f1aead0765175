use Rattle.rst_value.specs.Terns.{known}
use Rattle.rst_gate.specs.Operations.{on_bits, on_terns}
use Rattle.rst_gate.proofs.FoldLaws.{bits_fold, terns_fold}
use Rattle.rst_word_gates.proofs.Meaning.{bits_constant, terns_constant}
use Rattle.rst_design_terms.proofs.Meaning.{designs_are}
use Rattle.rst_design_terms.proofs.laws.designs.Goals as goal

pub returns-clause-two : goal.returns-clause-two
returns-clause-two c = designs_are (λ b. b) on_bits bits_fold bits_constant

pub returns-clause-three : goal.returns-clause-three
returns-clause-three c = designs_are known on_terns terns_fold terns_constant
