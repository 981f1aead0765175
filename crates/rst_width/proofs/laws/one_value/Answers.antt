use Rattle.rst_width.proofs.OneValue.{same_value}
use Rattle.rst_width.proofs.laws.one_value.Goals as goal

pub returns : goal.returns
returns c = λ signals e h. same_value signals (λ _. 0) e h
