use Rattle.rst_replay.proofs.Apart.{word_is_word, tells_apart}
use Rattle.rst_replay.proofs.laws.words_tell_apart.Goals as goal

pub returns : goal.returns
returns c = record { word = word_is_word; apart = tells_apart }
