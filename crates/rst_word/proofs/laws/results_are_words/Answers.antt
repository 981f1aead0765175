use Rattle.rst_word.proofs.Results.{unary_is_word, binary_is_word, joined_is_word, extended_is_word}
use Rattle.rst_word.proofs.laws.results_are_words.Goals as goal

pub returns : goal.returns
returns c = record { unary = unary_is_word; binary = binary_is_word; join = joined_is_word; extension = extended_is_word }
