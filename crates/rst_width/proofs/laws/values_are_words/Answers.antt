use Rattle.rst_width.proofs.ValueWords.{value-word}
use Rattle.rst_width.proofs.laws.values_are_words.Goals as goal

pub returns : goal.returns
returns c = value-word
