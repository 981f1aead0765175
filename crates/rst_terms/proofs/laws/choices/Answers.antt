use Rattle.rst_terms.proofs.Choices.{chosen_bits}
use Rattle.rst_terms.proofs.Selects.{selected_bit}
use Rattle.rst_terms.proofs.laws.choices.Goals as goal

pub returns-clause-choice : goal.returns-clause-choice
returns-clause-choice c = chosen_bits

pub returns-clause-select : goal.returns-clause-select
returns-clause-select c = selected_bit
