-- A word of the code in plain form.
use Rattle.rst_word.specs.Words.{PlainWord}
use Rattle.rst_word.specs.declared.word.Word.{Word}

abbrev pub plain_word : Word → PlainWord
plain_word w = record { width = w.width; signed = w.signed; value = w.value }
