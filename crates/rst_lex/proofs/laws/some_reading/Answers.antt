use Rattle.rst_lex.proofs.SomeReading.{some_reading}
use Rattle.rst_lex.proofs.laws.some_reading.Goals as goal

pub returns : goal.returns
returns c = λ text. some_reading text
