use Rattle.rst_value.specs.Terns.{known}
use Rattle.rst_gate.specs.Operations.{on_bits, on_terns}
use Rattle.rst_gate.proofs.FoldLaws.{bits_fold, terns_fold}
use Rattle.rst_word_gates.proofs.Meaning.{bits_constant, terns_constant}
use Rattle.rst_lower.proofs.Meaning.{expressions_are, expressions_spell}
use Rattle.rst_lower.proofs.laws.expressions.Goals as goal

pub returns-clause-two : goal.returns-clause-two
returns-clause-two c = expressions_are (λ b. b) on_bits bits_fold bits_constant

pub returns-clause-three : goal.returns-clause-three
returns-clause-three c = expressions_are known on_terns terns_fold terns_constant

pub returns-clause-value : goal.returns-clause-value
returns-clause-value c = expressions_spell
