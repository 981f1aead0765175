use Rattle.rst_terms.proofs.Operators.{unary_spells, binary_spells, extended_spells}
use Rattle.rst_terms.proofs.laws.operators.Goals as goal

pub returns-clause-unary : goal.returns-clause-unary
returns-clause-unary c = unary_spells

pub returns-clause-binary : goal.returns-clause-binary
returns-clause-binary c = binary_spells

pub returns-clause-extension : goal.returns-clause-extension
returns-clause-extension c = extended_spells
