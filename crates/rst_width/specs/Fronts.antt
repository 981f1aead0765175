-- The parts of a join that were read so far.
use Rattle.std.specs.Prelude.{ℕ, Option, Some, None}
use Rattle.rst_word.specs.declared.word.Word.{Word}
use Rattle.rst_word.specs.Words.{PlainWord, joined}
use Rattle.rst_word.specs.Plain.{plain_word}

abbrev pub width_of_front : Option Word → ℕ
width_of_front None = 0
width_of_front (Some w) = w.width

abbrev pub behind_front : Option Word → PlainWord → PlainWord
behind_front None w = w
behind_front (Some front) w = joined (plain_word front) w
