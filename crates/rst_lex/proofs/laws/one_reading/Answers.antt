use Rattle.rst_lex.proofs.OneReading.{one_reading}
use Rattle.rst_lex.proofs.laws.one_reading.Goals as goal

pub returns : goal.returns
returns c = λ text p q l m. one_reading l m
