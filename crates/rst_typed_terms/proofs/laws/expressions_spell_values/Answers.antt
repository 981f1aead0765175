use Rattle.rst_typed_terms.proofs.Values.{expression_spells}
use Rattle.rst_typed_terms.proofs.laws.expressions_spell_values.Goals as goal

pub returns : goal.returns
returns c widths words signals e fit reads spelled = expression_spells widths words signals spelled e fit reads
