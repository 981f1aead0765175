use Rattle.rst_statement_values.proofs.Effects.{statement_goes}
use Rattle.rst_statement_values.proofs.laws.statements_spell_effects.Goals as goal

pub returns : goal.returns
returns c room sight words p st fits agrees = (statement_goes room sight st words p fits agrees).agrees
