use Rattle.rst_parse.proofs.Settled.{some_answer}
use Rattle.rst_parse.proofs.laws.some_answer.Goals as goal

pub returns : goal.returns
returns c = some_answer
